-- The rows that a predicate finds after a number of commits.
use Rattle.std.proofs.Common.{◌≡◌, ◌++◌, ℕ, Bool, true, false, cond, List, [], ◌∷◌, Option, Some, None, All, refl, sym, ap, subst, ◌∙◌, append_assoc}
use Rattle.std.specs.Prelude.{not}
use Rattle.std.specs.List.{filter}
use Rattle.std.specs.Option.{OnSome, option_map}
use Rattle.std.proofs.lemmas.List.{append-nil}
use Rattle.std.proofs.lemmas.List.Elements.{filter-append}
use Rattle.mv_values.specs.declared.value.Value.{Value}
use Rattle.mv_values.specs.declared.rows.Keyed.{Keyed}
use Rattle.mv_values.specs.declared.pred.Pred.{Pred}
use Rattle.mv_values.specs.Keys.{IsRising, IsBelow, stored, as_row}
use Rattle.mv_values.specs.Preds.{matches, matched}
use Rattle.mv_table.specs.declared.span.Span.{Span}
use Rattle.mv_table.specs.Entries.{alone_at, picked, KeysRise}
use Rattle.mv_table.specs.declared.scan.Direction.{Direction}
use Rattle.mv_table.specs.declared.scan.Direction.TheVariants.{Forward, Backward}
use Rattle.mv_table.specs.Scans.{foremost, with_foremost}
use Rattle.mv_table.specs.Spans.{is_within, CoversAdmitted}
use Rattle.mv_table.proofs.Covering.{covered}
use Rattle.mv_table.proofs.Picking.{picked_filter}
use Rattle.mv_table.proofs.Scanning.{foremost_mapped, foremost_picked, foremost_unpicked}
use Rattle.mv_table.proofs.Storing.{front_below, stored_filter}
use Rattle.mv_record.specs.Admitting.{Admitted}
use Rattle.mv_record.proofs.Patching.{rising_filter}
use Rattle.mv_chain.specs.Versions.{Versions, row_at}
use Rattle.mv_view.specs.Narrowing.{matching, outside}
use Rattle.mv_store.specs.Stored.{Entries, table_at}
use Rattle.mv_store.proofs.Keys.{table_rises}

-- the row after n commits, where the predicate matches it
abbrev pub found_in : ℕ → Pred → Versions → Option (List Value)
found_in n pred v = matched pred (row_at v n)

matches_found : (n : ℕ) (pred : Pred) (es : Entries) → stored (picked (found_in n pred) es) ≡ matching pred (table_at n es)
matches_found n pred [] = refl
matches_found n pred (e ∷ es) = by (row_at e.1 n) (matches_found n pred es)
  where
    by : (o : Option (List Value)) → stored (picked (found_in n pred) es) ≡ matching pred (table_at n es)
        → stored (alone_at e.0 (matched pred o) ++ picked (found_in n pred) es) ≡ matching pred (stored (alone_at e.0 o ++ picked (λ v. row_at v n) es))
    by None more = more
    by (Some row) more = here (matches pred row) more
      where
        here : (b : Bool) → stored (picked (found_in n pred) es) ≡ matching pred (table_at n es)
            → stored (alone_at e.0 (cond b (Some row) None) ++ picked (found_in n pred) es) ≡ cond b (record { key = e.0; row = row } ∷ matching pred (table_at n es)) (matching pred (table_at n es))
        here true more = ap (λ l. record { key = e.0; row = row } ∷ l) more
        here false more = more

-- what is found in the span that tests leave is all that there is
pub found_within : (n : ℕ) (pred : Pred) (span : Span) (es : Entries) → CoversAdmitted pred.tests span → Admitted pred (table_at n es) → stored (picked (found_in n pred) (filter (λ e. is_within span e.0) es)) ≡ matching pred (table_at n es)
found_within n pred span es covers admitted =
    matches_found n pred (filter (λ e. is_within span e.0) es)
    ∙ (ap (λ l. matching pred (stored l)) (picked_filter (λ v. row_at v n) (is_within span) es)
    ∙ (ap (matching pred) (stored_filter (is_within span) (picked (λ v. row_at v n) es))
    ∙ covered pred.tests span (table_at n es) covers (λ item. matches pred item.row) admitted))

pub found_rises : (n : ℕ) (pred : Pred) (es : Entries) → KeysRise es → IsRising (matching pred (table_at n es))
found_rises n pred es h = rising_filter (λ item. matches pred item.row) (table_at n es) (table_rises n es h)

-- without tests all rows are found
pub all_kept : (rows : List Keyed) → filter (λ item. true) rows ≡ rows
all_kept [] = refl
all_kept (x ∷ xs) = ap (λ l. x ∷ l) (all_kept xs)

-- One entry more

stored_both : (es fs : List (List Value × List Value)) → stored (es ++ fs) ≡ stored es ++ stored fs
stored_both [] fs = refl
stored_both (e ∷ es) fs = ap (λ l. record { key = e.0; row = e.1 } ∷ l) (stored_both es fs)

pub rows_more : (f : Versions → Option (List Value)) (rows : List Keyed) (key : List Value) (v : Versions) (row : Option (List Value)) (rest : Entries) (all : List Keyed) → row ≡ f v → rows ++ stored (picked f ((key, v) ∷ rest)) ≡ all
    → (rows ++ stored (alone_at key row)) ++ stored (picked f rest) ≡ all
rows_more f rows key v row rest all is h =
    append_assoc rows (stored (alone_at key row)) (stored (picked f rest))
    ∙ (sym (ap (λ l. rows ++ l) (stored_both (alone_at key row) (picked f rest)))
    ∙ (ap (λ o. rows ++ stored (alone_at key o ++ picked f rest)) is ∙ h))

pub rows_below : (f : Versions → Option (List Value)) (rows : List Keyed) (key : List Value) (v : Versions) (row : Option (List Value)) (rest : Entries) (all : List Keyed) → row ≡ f v → rows ++ stored (picked f ((key, v) ∷ rest)) ≡ all → IsRising all
    → OnSome row (All (IsBelow key) rows)
rows_below f rows key v row rest all is h rising = by row (ap (λ o. rows ++ stored (alone_at key o ++ picked f rest)) is ∙ h)
  where
    by : (o : Option (List Value)) → rows ++ stored (alone_at key o ++ picked f rest) ≡ all → OnSome o (All (IsBelow key) rows)
    by None same = tt
    by (Some r) same = front_below rows (stored (picked f rest)) (record { key = key; row = r }) (subst IsRising (sym same) rising)

-- The first of a scan

first_there : (f : Versions → Option (List Value)) (d : Direction) (key : List Value) (v : Versions) (left rest : Entries) (row : List Value) (all : Option Keyed) → left ≡ with_foremost d (key, v) rest → f v ≡ Some row
    → foremost d (stored (picked f left)) ≡ all → Some (record { key = key; row = row }) ≡ all
first_there f d key v left rest row all is found so =
    sym (ap (λ es. foremost d (stored (picked f es))) is ∙ (foremost_mapped as_row d (picked f (with_foremost d (key, v) rest)) ∙ ap (option_map as_row) (foremost_picked f d (key, v) rest row found))) ∙ so

first_later : (f : Versions → Option (List Value)) (d : Direction) (key : List Value) (v : Versions) (left rest : Entries) (all : Option Keyed) → left ≡ with_foremost d (key, v) rest → f v ≡ None
    → foremost d (stored (picked f left)) ≡ all → foremost d (stored (picked f rest)) ≡ all
first_later f d key v left rest all is none so =
    foremost_mapped as_row d (picked f rest)
    ∙ (sym (ap (λ es. foremost d (stored (picked f es))) is ∙ (foremost_mapped as_row d (picked f (with_foremost d (key, v) rest)) ∙ ap (option_map as_row) (foremost_unpicked f d (key, v) rest none))) ∙ so)

-- The first of a scan outside a set of keys

-- the entries whose keys aren't in the set
abbrev free : (List Value → Bool) → Entries → Entries
free has es = filter (λ e. not (has e.0)) es

outside_free : (has : List Value → Bool) (f : Versions → Option (List Value)) (es : Entries) → outside has (stored (picked f es)) ≡ stored (picked f (free has es))
outside_free has f es = sym (ap stored (picked_filter f (λ key. not (has key)) es) ∙ stored_filter (λ key. not (has key)) (picked f es))

free_kept : (has : List Value → Bool) (d : Direction) (e : List Value × Versions) (es : Entries) → has e.0 ≡ false → free has (with_foremost d e es) ≡ with_foremost d e (free has es)
free_kept has Forward e es out = rw out refl
free_kept has Backward e es out = filter-append (λ x. not (has x.0)) es (e ∷ []) ∙ ap (λ b. free has es ++ cond (not b) (e ∷ []) []) out

free_passed : (has : List Value → Bool) (d : Direction) (e : List Value × Versions) (es : Entries) → has e.0 ≡ true → free has (with_foremost d e es) ≡ free has es
free_passed has Forward e es in' = rw in' refl
free_passed has Backward e es in' = filter-append (λ x. not (has x.0)) es (e ∷ []) ∙ (ap (λ b. free has es ++ cond (not b) (e ∷ []) []) in' ∙ append-nil (free has es))

-- a row outside the set that is found first
pub free_there : (has : List Value → Bool) (f : Versions → Option (List Value)) (d : Direction) (key : List Value) (v : Versions) (left rest : Entries) (row : List Value) (all : Option Keyed) → left ≡ with_foremost d (key, v) rest → has key ≡ false
    → f v ≡ Some row → foremost d (outside has (stored (picked f left))) ≡ all → Some (record { key = key; row = row }) ≡ all
free_there has f d key v left rest row all is out found so =
    first_there f d key v (free has left) (free has rest) row all (ap (free has) is ∙ free_kept has d (key, v) rest out) found (sym (ap (foremost d) (outside_free has f left)) ∙ so)

-- no row is found under the key
pub free_later : (has : List Value → Bool) (f : Versions → Option (List Value)) (d : Direction) (key : List Value) (v : Versions) (left rest : Entries) (all : Option Keyed) → left ≡ with_foremost d (key, v) rest → has key ≡ false → f v ≡ None
    → foremost d (outside has (stored (picked f left))) ≡ all → foremost d (outside has (stored (picked f rest))) ≡ all
free_later has f d key v left rest all is out none so =
    ap (foremost d) (outside_free has f rest)
    ∙ first_later f d key v (free has left) (free has rest) all (ap (free has) is ∙ free_kept has d (key, v) rest out) none (sym (ap (foremost d) (outside_free has f left)) ∙ so)

-- the key is in the set
pub free_behind : (has : List Value → Bool) (f : Versions → Option (List Value)) (d : Direction) (key : List Value) (v : Versions) (left rest : Entries) (all : Option Keyed) → left ≡ with_foremost d (key, v) rest → has key ≡ true
    → foremost d (outside has (stored (picked f left))) ≡ all → foremost d (outside has (stored (picked f rest))) ≡ all
free_behind has f d key v left rest all is in' so =
    ap (foremost d) (outside_free has f rest)
    ∙ (sym (ap (λ es. foremost d (stored (picked f es))) (ap (free has) is ∙ free_passed has d (key, v) rest in')) ∙ (sym (ap (foremost d) (outside_free has f left)) ∙ so))
