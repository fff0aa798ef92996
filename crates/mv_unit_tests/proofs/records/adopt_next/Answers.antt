use Rattle.std.proofs.Common.{ap, arith, length, length-append, ◌∷◌, []}
use Rattle.mv_unit_tests.proofs.Walking.{there}
use Rattle.mv_unit_tests.proofs.records.adopt_next.Goals as goal

pub returns-clause-rises : goal.returns-clause-rises
returns-clause-rises c =
    let n = c.in_ok-number.ensures in
    let within = c.if-number-len.false in
    let past = c.past.ensures in
    let len = c.len.ensures in
    let given = there c.args.task.now.log.past c.in_ok-number.number (omega (arith, n, within, ap length past, len)) in
    let adopted = c.in_ok-stepped.ensures.adopted given.0 given.1 in
    let more = ap length adopted.records in
    let whole = length-append c.args.task.now.log.records (adopted.next ∷ []) in
    let kept = c.in_ok-stepped.ensures.kept in
    omega (arith, more, whole, kept, n)
