use Rattle.mv_eval.specs.References.{fit_in}
use Rattle.mv_eval.proofs.Making.{set_step}
use Rattle.mv_serial.proofs.updating.renewed.Goals as goal

pub loop-item-preserved : goal.loop-item-preserved
loop-item-preserved c =
    set_step (fit_in c.args.tables.now c.args.update.now.table c.args.state.now.tables) c.args.keys.now c.args.state.now.env c.args.row.now c.args.update.now.items.now c.loop-item.item-index c.item-item.result c.loop-item.new c.set_column.new.row c.in_ok-v.v c.in_ok-v-2.v _
    c.loop-item-test.true c.item-item.is (rw c.as_slice.ensures at c.in_ok-v.ensures) c.in_ok-v-2.ensures c.set_column.ensures c.loop-item.invariant
