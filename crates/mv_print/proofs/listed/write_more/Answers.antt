use Rattle.std.proofs.Common.{◌∷◌}
use Rattle.mv_print.specs.Printing.{key}
use Rattle.mv_print.proofs.Writing.{item_turn, items_end}
use Rattle.mv_print.proofs.Trees.{follow_one}
use Rattle.mv_print.proofs.listed.write_more.Goals as goal

pub loop-item-preserved : goal.loop-item-preserved
loop-item-preserved g c =
    item_turn (λ y. key c.args.mark ∷ g.T.Printed.pieces y) c.args.items.now c.loop-item.item-index c.item-item.result c.loop-item.text c.write.new.text _ c.loop-item-test.true c.item-item.is
    (follow_one c.loop-item.text c.write_key.new.text c.write.new.text (key c.args.mark) (g.T.Printed.pieces c.item-item.result) c.in_ok-write_key.ensures c.in_ok-write.ensures) c.loop-item.invariant

pub returns : goal.returns
returns g c = items_end (λ y. key c.args.mark ∷ g.T.Printed.pieces y) c.args.items.now c.loop-item.item-index c.loop-item.text _ c.loop-item-test.false c.loop-item.invariant
