-- Indexes that cover more and more rows.
use Rattle.std.specs.Prelude.{◌&&◌, ◌||◌}
use Rattle.std.specs.Ordering.{is_eq}
use Rattle.std.proofs.lemmas.Cmp.{tied_itself}
use Rattle.std.proofs.lemmas.List.Folds.{list_any_more}
use Rattle.mv_values.specs.Order.{value_order, key_order}
use Rattle.mv_values.proofs.KeyOrder.{same_key, value_order_total}
use Rattle.std.proofs.Common.{◌≡◌, ◌≢◌, ◌⊎◌, ◌<◌, ◌≤◌, ◌+◌, ℕ, Bool, true, List, [], None, All, length, take, slice_index_or, inl, inr, refl, sym, ap, subst, ◌∙◌, arith}
use Rattle.std.proofs.lemmas.Bool.{cases_lt, or_left, or_right}
use Rattle.std.proofs.lemmas.List.{take_all}
use Rattle.std.proofs.lemmas.List.Elements.{All-more, All-nil}
use Rattle.mv_values.specs.declared.value.Value.{Value}
use Rattle.mv_values.specs.declared.rows.Keyed.{Keyed}
use Rattle.mv_values.specs.Columns.{column_of}
use Rattle.mv_values.specs.Tables.{rows_at}
use Rattle.mv_index.specs.Indexing.{Contents, stands, has_row, is_known, lens_of, CoversRows, HaveLen, AreOf, Keeps, AddsOnly, Has}
use Rattle.mv_index.proofs.Adding.{of_with}

pub keeps_then : (a b c : Contents) → Keeps a b → Keeps b c → Keeps a c
keeps_then a b c h g = record {
  indexed = λ t x. g.indexed t x ∙ h.indexed t x;
  entries = λ t x v k e. g.entries t x v k (h.entries t x v k e);
  lens = λ t len e. g.lens t len (h.lens t len e);
}

pub covers_kept : (a b : Contents) (t : ℕ) (rows : List Keyed) → CoversRows a t rows → Keeps a b → CoversRows b t rows
covers_kept a b t rows h g = record {
  keys = λ c on k d lt. g.entries t c (column_of (slice_index_or rows k d).row c) (slice_index_or rows k d).key (h.keys c (sym (g.indexed t c) ∙ on) k d lt);
  lens = λ k d lt. g.lens t (length (slice_index_or rows k d).key) (h.lens k d lt);
}

pub covers_none : (index : Contents) (t : ℕ) → CoversRows index t []
covers_none index t = record {
  keys = λ c on. All-nil (λ (item : Keyed). stands index t c (column_of item.row c) item.key ≡ true);
  lens = All-nil (λ (item : Keyed). is_known (lens_of index t) (length item.key) ≡ true);
}

-- the lengths are of one kind after one more key
pub even_more : (a b : Contents) (t : ℕ) (rows : List Keyed) (i : ℕ) (item : Keyed) → i < length rows → item ≡ slice_index_or rows i item → AddsOnly t item.key item.row a b → (len : ℕ) → HaveLen len rows → AreOf len (lens_of a t) → AreOf len (lens_of b t)
even_more a b t rows i item lt is adds len even h = elim (adds.lens t) [
  | inl same ↦ subst (AreOf len) (sym same) h
  | inr new ↦ subst (AreOf len) (sym new.1) (of_with (lens_of a t) len (length item.key) h (ap (λ (x : Keyed). length x.key) is ∙ even i item lt))
]

pub covers_more : (a b : Contents) (t : ℕ) (rows : List Keyed) (i : ℕ) (item : Keyed) → i < length rows → item ≡ slice_index_or rows i item → CoversRows a t (take i rows) → Keeps a b → Has t item.key item.row b
    → CoversRows b t (take (i + 1) rows)
covers_more a b t rows i item lt is h g has =
    let before : CoversRows b t (take i rows) = covers_kept a b t (take i rows) h g in
    record {
      keys = λ c on. All-more (λ (x : Keyed). stands b t c (column_of x.row c) x.key ≡ true) rows i item lt (before.keys c on) (subst (λ (x : Keyed). stands b t c (column_of x.row c) x.key ≡ true) is (has.entries c on));
      lens = All-more (λ (x : Keyed). is_known (lens_of b t) (length x.key) ≡ true) rows i item lt before.lens (subst (λ (x : Keyed). is_known (lens_of b t) (length x.key) ≡ true) is has.len);
    }

-- nothing else stands in it
pub only_more : (first a b : Contents) (table : ℕ) (rows : List Keyed) (i : ℕ) (item : Keyed) → i < length rows → item ≡ slice_index_or rows i item
    → ((t c : ℕ) (v : Value) (k : List Value) → stands a t c v k ≡ true → (stands first t c v k ≡ true) ⊎ ((t ≡ table) × (has_row (take i rows) c v k ≡ true))) → AddsOnly table item.key item.row a b
    → (t c : ℕ) (v : Value) (k : List Value) → stands b t c v k ≡ true → (stands first t c v k ≡ true) ⊎ ((t ≡ table) × (has_row (take (i + 1) rows) c v k ≡ true))
only_more first a b table rows i item lt is h adds t c v k e = elim (adds.entries t c v k e) [
  | inl was ↦ elim (h t c v k was) [
    | inl before ↦ inl before
    | inr there ↦ inr (there.0, more ∙ or_left (has_row (take i rows) c v k) (one item) there.1)
  ]
  | inr new ↦ inr (new.0, more ∙ or_right (has_row (take i rows) c v k) (one item) (rw (new.1, new.2) (itself item)))
]
  where
    one : Keyed → Bool
    one x = is_eq (key_order x.key k) && is_eq (value_order (column_of x.row c) v)

    more : has_row (take (i + 1) rows) c v k ≡ (has_row (take i rows) c v k || one item)
    more = list_any_more one rows i item lt ∙ ap (λ x. has_row (take i rows) c v k || one x) (sym is)

    itself : (x : Keyed) → (is_eq (key_order x.key x.key) && is_eq (value_order (column_of x.row c) (column_of x.row c))) ≡ true
    itself x = rw (same_key x.key, tied_itself value_order_total (column_of x.row c)) refl

pub only_all : (table : ℕ) (rows : List Keyed) (i : ℕ) → length rows ≤ i → (c : ℕ) (v : Value) (k : List Value) (t : ℕ) {P : Type 0} → P ⊎ ((t ≡ table) × (has_row (take i rows) c v k ≡ true)) → P ⊎ ((t ≡ table) × (has_row rows c v k ≡ true))
only_all table rows i le c v k t h = elim h [
  | inl before ↦ inl before
  | inr there ↦ inr (there.0, subst (λ l. has_row l c v k ≡ true) (take_all i rows le) there.1)
]

-- no other table's length is noted
pub others_same : (a b : Contents) (table t : ℕ) (key row : List Value) → t ≢ table → AddsOnly table key row a b → lens_of b t ≡ lens_of a t
others_same a b table t key row other adds = elim (adds.lens t) [
  | inl same ↦ same
  | inr new ↦ absurd (other new.0)
]

-- all rows of a table
pub covers_all : (index : Contents) (t : ℕ) (rows : List Keyed) (i : ℕ) → length rows ≤ i → CoversRows index t (take i rows) → CoversRows index t rows
covers_all index t rows i le h = subst (CoversRows index t) (take_all i rows le) h

-- the rows of one table more
pub tables_more : (a b : Contents) (db : List (List Keyed)) (table : ℕ) → ((t : ℕ) → t < table → CoversRows a t (rows_at db t)) → Keeps a b → CoversRows b table (rows_at db table)
    → (t : ℕ) → t < table + 1 → CoversRows b t (rows_at db t)
tables_more a b db table h keeps here t lt = elim (cases_lt t table) [
  | inl before ↦ covers_kept a b t (rows_at db t) (h t before) keeps
  | inr after ↦ let same : table ≡ t = omega (arith, after, lt) in subst (λ n. CoversRows b n (rows_at db n)) same here
]

-- the keys of one table more
pub evens_more : (a b : Contents) (db : List (List Keyed)) (table : ℕ) → ((t len : ℕ) → t < table → HaveLen len (rows_at db t) → AreOf len (lens_of a t)) → ((t : ℕ) → t ≢ table → lens_of b t ≡ lens_of a t)
    → ((len : ℕ) → HaveLen len (rows_at db table) → AreOf len (lens_of b table)) → (t len : ℕ) → t < table + 1 → HaveLen len (rows_at db t) → AreOf len (lens_of b t)
evens_more a b db table h others here t len lt even = elim (cases_lt t table) [
  | inl before ↦ subst (AreOf len) (sym (others t (λ same. omega (arith, same, before)))) (h t len before even)
  | inr after ↦ let same : table ≡ t = omega (arith, after, lt) in subst (λ n. HaveLen len (rows_at db n) → AreOf len (lens_of b n)) same (here len) even
]

pub past_even : (index : Contents) (table : ℕ) (db : List (List Keyed)) → ((t : ℕ) → table ≤ t → lens_of index t ≡ None) → ((t len : ℕ) → t < table → HaveLen len (rows_at db t) → AreOf len (lens_of index t)) → (t len : ℕ) → HaveLen len (rows_at db t)
    → AreOf len (lens_of index t)
past_even index table db fresh h t len even = elim (cases_lt t table) [
  | inl before ↦ h t len before even
  | inr after ↦ subst (AreOf len) (sym (fresh t after)) tt
]
