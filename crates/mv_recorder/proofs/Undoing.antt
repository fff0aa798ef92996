-- Writes to tables, and the rows that take them back.
use Rattle.std.proofs.Common.{◌≡◌, ℕ, Bool, true, false, List, [], ◌∷◌, ◌++◌, Option, length, slice_set, refl, sym, ap, subst, ◌∙◌, inl, inr}
use Rattle.std.specs.Ordering.{is_eq}
use Rattle.std.proofs.lemmas.Bool.{cases_lt}
use Rattle.std.proofs.lemmas.List.{set-set, get_or-set_same, set-get_or, set_past}
use Rattle.mv_values.specs.declared.value.Value.{Value}
use Rattle.mv_values.specs.declared.rows.Keyed.{Keyed}
use Rattle.mv_values.specs.Keys.{IsRising}
use Rattle.mv_values.specs.Order.{key_order}
use Rattle.mv_values.specs.Patching.{row_of, placed}
use Rattle.mv_values.specs.Tables.{rows_at, Tables}
use Rattle.mv_values.proofs.KeyOrder.{tied}
use Rattle.mv_record.proofs.Patching.{rows_same, row_of-placed_same, placed_other, rising_placed}
use Rattle.mv_recorder.specs.declared.undo.Was.{Was}
use Rattle.mv_recorder.specs.Undoing.{put_back, all_back, KeepsBack}

-- a table that was taken out, put back
pub set_twice : (db : Tables) (t : ℕ) (rows : List Keyed) → slice_set (slice_set db t []) t rows ≡ slice_set db t rows
set_twice db t rows = set-set db t [] rows

-- what was under a key, put there again
placed_back : (rows : List Keyed) (key : List Value) (row : Option (List Value)) → IsRising rows → placed key (row_of rows key) (placed key row rows) ≡ rows
placed_back rows key row rising =
    rows_same (placed key (row_of rows key) (placed key row rows)) rows (rising_placed key (row_of rows key) (placed key row rows) (rising_placed key row rows rising)) rising (λ other. by other (is_eq (key_order key other)) refl)
  where
    by : (other : List Value) (b : Bool) → is_eq (key_order key other) ≡ b → row_of (placed key (row_of rows key) (placed key row rows)) other ≡ row_of rows other
    by other true e =
        let same : key ≡ other = tied key other e in
        subst (λ k. row_of (placed key (row_of rows key) (placed key row rows)) k ≡ row_of rows k) same
        (row_of-placed_same key (row_of rows key) (placed key row rows) (rising_placed key row rows rising))
    by other false e = placed_other key (row_of rows key) (placed key row rows) other e ∙ placed_other key row rows other e

-- a key changed in a table that was set
pub changed_again : (db : Tables) (t : ℕ) (rows : List Keyed) (key : List Value) (row : Option (List Value)) → slice_set (slice_set db t rows) t (placed key row (rows_at (slice_set db t rows) t)) ≡ slice_set db t (placed key row rows)
changed_again db t rows key row =
    elim (cases_lt t (length db)) [
      | inl within ↦ ap (λ rs. slice_set (slice_set db t rows) t (placed key row rs)) (get_or-set_same db t rows [] within) ∙ set-set db t rows (placed key row rows)
      | inr past ↦ ap (λ (d : Tables). slice_set d t (placed key row (rows_at d t))) (set_past db t rows past) ∙ (set_past db t (placed key row (rows_at db t)) past ∙ sym (set_past db t (placed key row rows) past))
    ]

-- a change is taken back by the row that was there
pub taken_back : (t : ℕ) (key : List Value) (row was : Option (List Value)) (db new : Tables) → IsRising (rows_at db t) → new ≡ slice_set db t (placed key row (rows_at db t)) → was ≡ row_of (rows_at db t) key
    → put_back (record { table = t; key = key; row = was }) new ≡ db
taken_back t key row was db new rising is before =
    ap (λ (d : Tables). slice_set d t (placed key was (rows_at d t))) is
    ∙ (changed_again db t (placed key row (rows_at db t)) key was
    ∙ (ap (λ w. slice_set db t (placed key w (placed key row (rows_at db t)))) before
    ∙ (ap (slice_set db t) (placed_back (rows_at db t) key row rising) ∙ set-get_or db t [])))

-- the last of changes is made first
pub changed_last : (cs : List Was) (c : Was) (db : Tables) → all_back (cs ++ c ∷ []) db ≡ all_back cs (put_back c db)
changed_last [] c db = refl
changed_last (d ∷ cs) c db = ap (put_back d) (changed_last cs c db)

-- a change that takes back what was done is remembered
pub keeps : (us : List Was) (u : Was) (db new : Tables) → put_back u new ≡ db → KeepsBack us db (us ++ u ∷ []) new
keeps us u db new back = changed_last us u new ∙ ap (all_back us) back
