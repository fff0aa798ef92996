use Rattle.std.proofs.Common.{◌≤◌, subst}
use Rattle.mv_history.specs.Hits.{touches_predicate}
use Rattle.mv_changes.proofs.Trying.{any_here, any_left, any_none}
use Rattle.mv_why.proofs.touch.touches.Goals as goal

pub returns-then-touches_predicate : goal.returns-then-touches_predicate
returns-then-touches_predicate c =
    any_here (touches_predicate c.args.write.now) c.args.preds.now c.loop-at.at c.get.result c.touches_predicate.result c.get.ensures c.touches_predicate.ensures c.if-touches_predicate.true c.loop-at.invariant

pub loop-at-preserved : goal.loop-at-preserved
loop-at-preserved c =
    any_left (touches_predicate c.args.write.now) c.args.preds.now c.loop-at.at c.get.result c.touches_predicate.result c.get.ensures c.touches_predicate.ensures c.if-touches_predicate.false c.loop-at.invariant

pub returns : goal.returns
returns c = any_none (touches_predicate c.args.write.now) c.args.preds.now c.loop-at.at (subst (λ n. n ≤ c.loop-at.at) c.len-at-end.ensures c.loop-at-test.false) c.loop-at.invariant
