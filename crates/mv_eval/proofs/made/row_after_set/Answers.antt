use Rattle.mv_eval.specs.Rows.{fit}
use Rattle.mv_eval.proofs.Making.{set_step}
use Rattle.mv_eval.proofs.made.row_after_set.Goals as goal

pub loop-item-preserved : goal.loop-item-preserved
loop-item-preserved c =
    set_step (fit c.args.columns.now) c.args.keys.now c.args.env.now c.args.row.now c.args.items.now c.loop-item.item-index c.item-item.result c.loop-item.new c.set_column.new.row c.in_ok-v.v c.in_ok-v-2.v _
    c.loop-item-test.true c.item-item.is (rw c.as_slice.ensures at c.in_ok-v.ensures) c.in_ok-v-2.ensures c.set_column.ensures c.loop-item.invariant
