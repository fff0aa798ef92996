use Rattle.std.proofs.Common.{◌++◌, sym, ap, ◌∙◌}
use Rattle.mv_values.specs.Keys.{stored}
use Rattle.mv_table.specs.Entries.{picked}
use Rattle.mv_view.specs.Narrowing.{matching}
use Rattle.mv_store.specs.Stored.{table_at}
use Rattle.mv_store.proofs.Found.{found_in, found_within, found_rises, rows_more, rows_below}
use Rattle.mv_store.proofs.find.find_within.Goals as goal

pub loop-key-init : goal.loop-key-init
loop-key-init c = record {
  rows = rw c.new-rows.ensures
      (ap (λ es. stored (picked (found_in c.args.n c.args.pred.now) es)) (c.into_iter-key-iterator.ensures.into_iter_gives ∙ c.range-key-items.ensures.items)
      ∙ found_within c.args.n c.args.pred.now c.args.span.now c.args.table.now c.requires.covers c.requires.admitted);
  rising = found_rises c.args.n c.args.pred.now c.args.table.now c.range-key-items.ensures.rising;
}

pub add_row-requires : goal.add_row-requires
add_row-requires c =
    rows_below (found_in c.args.n c.args.pred.now) c.loop-key.rows c.in-Some.key.now c.in-Some.chain.now c.in_ok-row.row c.next.new.self (matching c.args.pred.now (table_at c.args.n c.args.table.now)) c.in_ok-row.ensures
    (sym (ap (λ es. c.loop-key.rows ++ stored (picked (found_in c.args.n c.args.pred.now) es)) c.in-Some.ensures.steps) ∙ c.loop-key.invariant.rows) c.loop-key.invariant.rising

pub loop-key-preserved : goal.loop-key-preserved
loop-key-preserved c = record {
  rows =
      ap (λ l. l ++ stored (picked (found_in c.args.n c.args.pred.now) c.next.new.self)) c.in_ok-add_row.ensures
      ∙ rows_more (found_in c.args.n c.args.pred.now) c.loop-key.rows c.in-Some.key.now c.in-Some.chain.now c.in_ok-row.row c.next.new.self (matching c.args.pred.now (table_at c.args.n c.args.table.now)) c.in_ok-row.ensures
      (sym (ap (λ es. c.loop-key.rows ++ stored (picked (found_in c.args.n c.args.pred.now) es)) c.in-Some.ensures.steps) ∙ c.loop-key.invariant.rows);
  rising = c.loop-key.invariant.rising;
}
