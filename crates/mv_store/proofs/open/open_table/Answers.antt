use Rattle.std.proofs.Common.{ap, sym, subst, ◌∙◌, Some}
use Rattle.mv_values.specs.Keys.{IsRising}
use Rattle.mv_table.specs.Entries.{with_item}
use Rattle.mv_store.proofs.Opening.{opened_more}
use Rattle.mv_store.proofs.open.open_table.Goals as goal

pub loop-item-preserved : goal.loop-item-preserved
loop-item-preserved c = record {
  opens =
      opened_more c.as_slice-item-items.result.now c.loop-item.item-index c.item-item.result c.loop-item.table c.put.new.self c.in_ok-key.key c.in_ok-row.row
      (subst IsRising (sym c.as_slice-item-items.ensures.items) c.as_slice-item-items.ensures.rising)
      c.loop-item-test.true c.item-item.is c.loop-item.invariant.opens c.in_ok-key.ensures c.in_ok-row.ensures
      (c.in_ok-put.ensures.ok ∙ ap (λ v. with_item c.in_ok-key.key (Some v) c.loop-item.table) c.new.ensures);
  rising = c.in_ok-put.ensures.rising;
}
