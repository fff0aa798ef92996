use Rattle.std.proofs.Common.{ap, arith, length, length-append, ◌∷◌, []}
use Rattle.mv_unit_tests.proofs.Walking.{goes_on, there}
use Rattle.mv_unit_tests.proofs.walks.adopt_next.Goals as goal

pub adopt-requires-clause-running : goal.adopt-requires-clause-running
adopt-requires-clause-running c = (c.args.call.now, c.requires.call)

pub returns-clause-on : goal.returns-clause-on
returns-clause-on c = λ db rise on all.
    goes_on c.args.graph.now c.args.call.now db c.args.task.now c.adopt.new.task c.args.task.now.log.past c.in_ok-number.number rise on all c.requires.within
    c.in_ok-number.ensures c.adopt.ensures.call c.in_ok-adopt.ensures.goes_on

pub returns-clause-longer : goal.returns-clause-longer
returns-clause-longer c =
    let n = c.in_ok-number.ensures in
    let within = c.requires.within in
    let given = there c.args.task.now.log.past c.in_ok-number.number (omega (arith, n, within)) in
    let adopted = c.in_ok-adopt.ensures.adopted given.0 given.1 in
    let more = ap length adopted.records in
    let whole = length-append c.args.task.now.log.records (adopted.next ∷ []) in
    omega (arith, more, whole)

pub returns-clause-rises : goal.returns-clause-rises
returns-clause-rises c =
    let n = c.in_ok-number.ensures in
    let within = c.requires.within in
    let given = there c.args.task.now.log.past c.in_ok-number.number (omega (arith, n, within)) in
    let adopted = c.in_ok-adopt.ensures.adopted given.0 given.1 in
    let more = ap length adopted.records in
    let whole = length-append c.args.task.now.log.records (adopted.next ∷ []) in
    let kept = c.in_ok-adopt.ensures.kept in
    omega (arith, more, whole, kept, n)
