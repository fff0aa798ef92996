use Rattle.mv_resolve.proofs.Lists.{one_on}
use Rattle.mv_resolve.proofs.build.rows.Goals as goal

pub loop-one-preserved : goal.loop-one-preserved
loop-one-preserved c = one_on _ c.args.literals.now c.loop-one.one-index c.one-item.result _ _ _ c.one-item.is c.loop-one-test.true c.in_ok-row.ensures c.in_ok-push.ensures.ok c.loop-one.invariant
