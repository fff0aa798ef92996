use Rattle.std.proofs.Common.{sym, ◌∙◌}
use Rattle.mv_compile.proofs.Equalities.{cond_taken, cond_passed}
use Rattle.mv_compile.proofs.tested.add_equalities.Goals as goal

pub loop-cond-preserved-then-not-is_equality : goal.loop-cond-preserved-then-not-is_equality
loop-cond-preserved-then-not-is_equality c =
    cond_passed c.loop-cond.all c.args.table c.args.conds.now c.loop-cond.cond-index c.cond-item.result c.loop-cond-test.true c.cond-item.is (sym c.is_equality.ensures ∙ c.if-not-is_equality.true) ∙ c.loop-cond.invariant

pub loop-cond-preserved : goal.loop-cond-preserved
loop-cond-preserved c =
    cond_taken c.loop-cond.all c.add_column.new.all c.args.table c.args.conds.now c.loop-cond.cond-index c.cond-item.result c.loop-cond-test.true c.cond-item.is (sym c.is_equality.ensures ∙ c.if-not-is_equality.false) c.in_ok-add_column.ensures
    ∙ c.loop-cond.invariant
