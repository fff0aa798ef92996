use Rattle.mv_resolve.proofs.Lists.{one_on}
use Rattle.mv_resolve.proofs.build_names.columns.Goals as goal

pub loop-name-preserved : goal.loop-name-preserved
loop-name-preserved c = one_on _ c.args.names.now c.loop-name.name-index c.name-item.result _ _ _ c.name-item.is c.loop-name-test.true c.column.ensures c.in_ok-push.ensures.ok c.loop-name.invariant
