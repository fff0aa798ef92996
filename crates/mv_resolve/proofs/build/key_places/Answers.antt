use Rattle.mv_resolve.proofs.Lists.{one_on}
use Rattle.mv_resolve.proofs.build.key_places.Goals as goal

pub loop-name-preserved : goal.loop-name-preserved
loop-name-preserved c = one_on _ c.args.key.now c.loop-name.name-index c.name-item.result _ _ _ c.name-item.is c.loop-name-test.true (rw c.place.ensures at c.tiny_number.ensures) c.in_ok-push.ensures.ok c.loop-name.invariant
