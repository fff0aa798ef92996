use Rattle.std.proofs.Common.{sym, subst}
use Rattle.mv_store.specs.Kept.{AllRise}
use Rattle.mv_store.proofs.Opening.{opened_all_more, rises_push}
use Rattle.mv_store.proofs.open.open_all.Goals as goal

pub loop-rows-preserved : goal.loop-rows-preserved
loop-rows-preserved c = record {
  opens =
      opened_all_more c.as_slice-rows-items.result.now c.loop-rows.rows-index c.rows-item.result c.loop-rows.tables.items c.push.new.self.items c.in_ok-open_table.field-0 c.loop-rows-test.true c.rows-item.is c.loop-rows.invariant.opens
      c.in_ok-open_table.ensures.opened c.in_ok-push.ensures.items;
  rising = subst AllRise (sym c.in_ok-push.ensures.items) (rises_push c.loop-rows.tables.items c.in_ok-open_table.field-0 c.loop-rows.invariant.rising c.in_ok-open_table.ensures.rising);
}
