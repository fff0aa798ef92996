use Rattle.std.proofs.Common.{◌≡◌, ◌<◌, ◌≤◌, ℕ, true, List, None}
use Rattle.mv_values.specs.declared.value.Value.{Value}
use Rattle.mv_values.specs.Tables.{rows_at}
use Rattle.mv_values.specs.Testing.{are_tested}
use Rattle.mv_index.specs.Indexing.{is_indexed, stands, has_row, lens_of, CoversRows, HaveLen, AreOf}
use Rattle.mv_index.proofs.cover.cover.Given as goal

abbrev pub invariant-loop-table : goal.invariant-loop-table
invariant-loop-table l = record {
  indexed : (t c : ℕ) → is_indexed l.index t c ≡ are_tested l.columns t c;
  only : (t c : ℕ) (v : Value) (k : List Value) → stands l.index t c v k ≡ true → has_row (rows_at l.database t) c v k ≡ true;
  covers : (t : ℕ) → t < l.table → CoversRows l.index t (rows_at l.database t);
  fresh : (t : ℕ) → l.table ≤ t → lens_of l.index t ≡ None;
  even : (t len : ℕ) → t < l.table → HaveLen len (rows_at l.database t) → AreOf len (lens_of l.index t);
}
