use Rattle.std.proofs.Common.{◌≡◌, ◌≢◌, ◌⊎◌, ℕ, true, List, take}
use Rattle.mv_values.specs.declared.value.Value.{Value}
use Rattle.mv_index.specs.Indexing.{stands, has_row, lens_of, CoversRows, Keeps, HaveLen, AreOf}
use Rattle.mv_index.proofs.cover.add_rows.Given as goal

abbrev pub invariant-loop-item : goal.invariant-loop-item
invariant-loop-item l = record {
  keeps : Keeps l.fn.index l.index;
  others : (t : ℕ) → t ≢ l.table → lens_of l.index t ≡ lens_of l.fn.index t;
  even : (len : ℕ) → HaveLen len l.rows → AreOf len (lens_of l.fn.index l.table) → AreOf len (lens_of l.index l.table);
  only : (t c : ℕ) (v : Value) (k : List Value) → stands l.index t c v k ≡ true → (stands l.fn.index t c v k ≡ true) ⊎ ((t ≡ l.table) × (has_row (take l.item-index l.rows) c v k ≡ true));
  covers : CoversRows l.index l.table (take l.item-index l.rows);
}
