use Rattle.std.proofs.Common.{◌++◌, ap, sym, ◌∙◌}
use Rattle.mv_values.specs.Keys.{stored}
use Rattle.mv_table.specs.Entries.{picked}
use Rattle.mv_chain.specs.Versions.{row_at}
use Rattle.mv_store.specs.Stored.{table_at}
use Rattle.mv_store.proofs.Found.{rows_more, rows_below}
use Rattle.mv_store.proofs.Keys.{table_rises}
use Rattle.mv_store.proofs.close.close_table.Goals as goal

pub loop-key-init : goal.loop-key-init
loop-key-init c = record {
  can = tt;
  ends = tt;
  rows = rw c.new-rows.ensures (ap (table_at c.args.n) (c.into_iter-key-iterator.ensures.into_iter_gives ∙ c.into_entries-key-items.ensures.items));
  rising = table_rises c.args.n c.args.table c.into_entries-key-items.ensures.rising;
}

pub push_row-requires : goal.push_row-requires
push_row-requires c =
    rows_below (λ v. row_at v c.args.n) c.loop-key.rows c.in-Some.key c.in-Some.chain c.in_ok-row.row c.next.new.self (table_at c.args.n c.args.table) c.in_ok-row.ensures
    (sym (ap (λ es. c.loop-key.rows ++ stored (picked (λ v. row_at v c.args.n) es)) c.in-Some.ensures.steps) ∙ c.loop-key.invariant.rows) c.loop-key.invariant.rising

pub loop-key-preserved : goal.loop-key-preserved
loop-key-preserved c = record {
  can = tt;
  ends = tt;
  rows =
      ap (λ l. l ++ stored (picked (λ v. row_at v c.args.n) c.next.new.self)) c.in_ok-push_row.ensures
      ∙ rows_more (λ v. row_at v c.args.n) c.loop-key.rows c.in-Some.key c.in-Some.chain c.in_ok-row.row c.next.new.self (table_at c.args.n c.args.table) c.in_ok-row.ensures
      (sym (ap (λ es. c.loop-key.rows ++ stored (picked (λ v. row_at v c.args.n) es)) c.in-Some.ensures.steps) ∙ c.loop-key.invariant.rows);
  rising = c.loop-key.invariant.rising;
}
