use Rattle.std.proofs.Common.{ℕ, List, take}
use Rattle.mv_values.specs.declared.value.Value.{Value}
use Rattle.mv_store.specs.Indexed.{IsIndexOf}
use Rattle.mv_store.specs.Kept.{versions_at, after_change, KeepsRows, AreDone}
use Rattle.mv_store.proofs.change.change_all.Given as goal

abbrev pub invariant-loop-table_key : goal.invariant-loop-table_key
invariant-loop-table_key l = record {
  versions : AreDone (after_change l.to) (take l.table_key-index l.table_keys) l.fn.tables.items l.tables.items;
  index : IsIndexOf l.fn.tables.items l.fn.index → IsIndexOf l.tables.items l.index;
  rows : (t : ℕ) (key : List Value) → KeepsRows l.to (versions_at l.fn.tables.items t key) (versions_at l.tables.items t key);
}
