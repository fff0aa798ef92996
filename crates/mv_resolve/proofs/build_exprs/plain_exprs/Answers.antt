use Rattle.mv_resolve.proofs.Lists.{one_on}
use Rattle.mv_resolve.proofs.build_exprs.plain_exprs.Goals as goal

pub loop-e-preserved : goal.loop-e-preserved
loop-e-preserved c = one_on _ c.args.exprs.now c.loop-e.e-index c.e-item.result _ _ _ c.e-item.is c.loop-e-test.true c.in_ok-plain_expr.ensures c.in_ok-push.ensures.ok c.loop-e.invariant
