use Rattle.mv_undo.proofs.Growing.{found_last}
use Rattle.mv_undo.proofs.index.last_on.Goals as goal

pub returns : goal.returns
returns c = found_last c.args.items.now c.args.order.now c.count_up_to-at.result c.args.table c.args.key.now c.found_at.result c.requires c.count_up_to-at.ensures.within c.found_at.ensures
