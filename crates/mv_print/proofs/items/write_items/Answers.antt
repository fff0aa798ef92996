use Rattle.mv_print.specs.Printing.{pieces_of}
use Rattle.mv_print.proofs.Writing.{item_turn, items_end}
use Rattle.mv_print.proofs.items.write_items.Goals as goal

pub loop-item-preserved : goal.loop-item-preserved
loop-item-preserved c =
    item_turn (pieces_of c.args.bytes.now) c.args.items.now c.loop-item.item-index c.item-item.result c.loop-item.text c.write_item.new.text _ c.loop-item-test.true c.item-item.is c.in_ok-write_item.ensures c.loop-item.invariant

pub returns : goal.returns
returns c = items_end (pieces_of c.args.bytes.now) c.args.items.now c.loop-item.item-index c.loop-item.text _ c.loop-item-test.false c.loop-item.invariant
