use Rattle.std.proofs.Common.{◌≡◌, ◌++◌}
use Rattle.mv_values.specs.Keys.{IsRising, stored}
use Rattle.mv_table.specs.Entries.{picked}
use Rattle.mv_view.specs.Narrowing.{matching}
use Rattle.mv_store.specs.Stored.{table_at}
use Rattle.mv_store.proofs.Found.{found_in}
use Rattle.mv_store.proofs.find.find_within.Given as goal

abbrev pub invariant-loop-key : goal.invariant-loop-key
invariant-loop-key l = record {
  rows : l.rows ++ stored (picked (found_in l.n l.pred) l.key-iterator) ≡ matching l.pred (table_at l.n l.table);
  rising : IsRising (matching l.pred (table_at l.n l.table));
}
