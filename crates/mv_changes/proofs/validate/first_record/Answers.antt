use Rattle.std.proofs.Common.{◌<◌, length, take, subst, arith}
use Rattle.mv_changes.specs.Admitting.{AreAdmitted}
use Rattle.mv_changes.proofs.Admitting.{all_got}
use Rattle.mv_changes.proofs.Trying.{tried_here, tried_next}
use Rattle.mv_changes.proofs.validate.first_record.Goals as goal

pub returns-then-any_hit-clause-first : goal.returns-then-any_hit-clause-first
returns-then-any_hit-clause-first c admitted =
    let rs = c.args.records.now in
    let i = c.loop-number.number in
    let lt : i < length rs = subst (λ n. i < n) c.len-number-end.ensures c.loop-number-test.true in
    tried_here c.args.changes.now rs i c.get.result c.any_hit.result lt c.get.ensures
    (c.any_hit.ensures (take i rs) (c.requires i (omega (arith, lt))) (all_got (AreAdmitted c.args.changes.now) rs i c.get.result lt c.get.ensures admitted)) c.if-any_hit.true (c.loop-number.invariant admitted)

pub loop-number-preserved : goal.loop-number-preserved
loop-number-preserved c admitted =
    let rs = c.args.records.now in
    let i = c.loop-number.number in
    let lt : i < length rs = subst (λ n. i < n) c.len-number-end.ensures c.loop-number-test.true in
    tried_next c.args.changes.now rs i c.get.result c.any_hit.result lt c.get.ensures
    (c.any_hit.ensures (take i rs) (c.requires i (omega (arith, lt))) (all_got (AreAdmitted c.args.changes.now) rs i c.get.result lt c.get.ensures admitted)) c.if-any_hit.false (c.loop-number.invariant admitted)
