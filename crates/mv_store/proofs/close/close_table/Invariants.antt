use Rattle.std.proofs.Common.{◌≡◌, ◌++◌}
use Rattle.mv_values.specs.Keys.{IsRising, stored}
use Rattle.mv_table.specs.Entries.{picked}
use Rattle.mv_chain.specs.Versions.{row_at}
use Rattle.mv_store.specs.Stored.{table_at}
use Rattle.mv_store.proofs.close.close_table.Given as goal

abbrev pub invariant-loop-key : goal.invariant-loop-key
invariant-loop-key l = record {
  can : (goal.iterator-loop-key).can_next l.key-iterator;
  ends : (goal.iterator-loop-key).is_finite l.key-iterator;
  rows : l.rows ++ stored (picked (λ v. row_at v l.n) l.key-iterator) ≡ table_at l.n l.fn.table;
  rising : IsRising (table_at l.n l.fn.table);
}
