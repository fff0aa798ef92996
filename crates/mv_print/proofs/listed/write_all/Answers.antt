use Rattle.mv_print.proofs.Writing.{item_turn, items_end}
use Rattle.mv_print.proofs.listed.write_all.Goals as goal

pub loop-item-preserved : goal.loop-item-preserved
loop-item-preserved g c =
    item_turn g.T.Printed.pieces c.args.items.now c.loop-item.item-index c.item-item.result c.loop-item.text c.write.new.text _ c.loop-item-test.true c.item-item.is c.in_ok-write.ensures c.loop-item.invariant

pub returns : goal.returns
returns g c = items_end g.T.Printed.pieces c.args.items.now c.loop-item.item-index c.loop-item.text _ c.loop-item-test.false c.loop-item.invariant
