use Rattle.std.proofs.Common.{sym, subst}
use Rattle.mv_values.specs.Keys.{IsRising}
use Rattle.mv_table.proofs.Storing.{copied_more}
use Rattle.mv_table.proofs.table.Table.of.Goals as goal

pub loop-item-preserved : goal.loop-item-preserved
loop-item-preserved c =
    copied_more c.as_slice-item-items.result.now c.loop-item.item-index c.item-item.result c.loop-item.table c.put.new.self c.in_ok-key.key c.in_ok-copy.field-0
    (subst IsRising (sym c.as_slice-item-items.ensures.items) c.as_slice-item-items.ensures.rising)
    c.loop-item-test.true c.item-item.is c.loop-item.invariant c.in_ok-key.ensures c.in_ok-copy.ensures c.in_ok-put.ensures.ok
