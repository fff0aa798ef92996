use Rattle.std.proofs.Common.{◌≡◌, ◌<◌, List, refl, sym, subst, arith, length, slice_index_or}
use Rattle.mv_values.specs.declared.pred.Test.{Test}
use Rattle.mv_index.proofs.Choosing.{best_none, best_passed, best_taken, none_best, are_fewest, at_end}
use Rattle.mv_index.proofs.index.Index.fewest.Goals as goal

pub loop-test-init : goal.loop-test-init
loop-test-init c = best_none c.args.self.now c.args.pred.now.table c.args.pred.now.tests

pub loop-test-preserved-in_default : goal.loop-test-preserved-in_default
loop-test-preserved-in_default c =
    best_passed c.args.self.now c.args.pred.now.table c.args.pred.now.tests c.loop-test.test-index c.test-item.result c.loop-test.best (subst (λ (ts : List Test). c.loop-test.test-index < length ts) c.tests-test-items.ensures c.loop-test-test.true) (subst (λ (ts : List Test). c.test-item.result ≡ slice_index_or ts c.loop-test.test-index c.test-item.result) c.tests-test-items.ensures c.test-item.is) (sym c.in_default.ensures) c.loop-test.invariant

pub loop-test-preserved : goal.loop-test-preserved
loop-test-preserved c =
    best_taken c.args.self.now c.args.pred.now.table c.args.pred.now.tests c.loop-test.test-index c.test-item.result c.loop-test.best _ c.better.result (subst (λ (ts : List Test). c.loop-test.test-index < length ts) c.tests-test-items.ensures c.loop-test-test.true) (subst (λ (ts : List Test). c.test-item.result ≡ slice_index_or ts c.loop-test.test-index c.test-item.result) c.tests-test-items.ensures c.test-item.is) (sym c.in-Some.ensures) refl c.better.ensures.one c.better.ensures.no_worse
    c.better.ensures.no_worse_before c.loop-test.invariant

pub returns-in-Some-best : goal.returns-in-Some-best
returns-in-Some-best c = are_fewest c.args.self.now c.args.pred.now c.loop-test.test-index c.in-Some-best.best (at_end c.loop-test.test-index _ _ c.tests-test-items.ensures (omega (arith, c.loop-test-test.false))) (rw c.in-Some-best.is at c.loop-test.invariant)

pub returns-in-None : goal.returns-in-None
returns-in-None c = none_best c.args.self.now c.args.pred.now.table c.args.pred.now.tests c.loop-test.test-index (at_end c.loop-test.test-index _ _ c.tests-test-items.ensures (omega (arith, c.loop-test-test.false))) (rw c.in-None.is at c.loop-test.invariant)
