-- Where no change hits a predicate and no write that isn't in both runs touches it, it finds the same in both.
use Rattle.std.proofs.Common.{◌≡◌, ◌<◌, ◌≤◌, ℕ, zero, suc, Bool, true, false, cond, List, [], ◌∷◌, Option, Some, None, All, map, length, refl, sym, ap, subst, ◌∙◌, arith}
use Rattle.std.specs.Prelude.{nat_lt, slice_index_or}
use Rattle.std.proofs.lemmas.Bool.Decides.{nat_tests}
use Rattle.std.specs.List.{filter}
use Rattle.std.specs.Option.{option_map}
use Rattle.std.specs.Ordering.{is_eq}
use Rattle.mv_eval.specs.Rows.{IsPlaced}
use Rattle.mv_values.specs.declared.value.Value.{Value}
use Rattle.mv_values.specs.declared.rows.Keyed.{Keyed}
use Rattle.mv_values.specs.declared.pred.Pred.{Pred}
use Rattle.mv_values.specs.declared.patch.Write.{Write}
use Rattle.mv_values.specs.declared.schema.TableInfo.{TableInfo}
use Rattle.mv_values.specs.Columns.{columns_of}
use Rattle.mv_values.specs.Keys.{IsRising}
use Rattle.mv_values.specs.Order.{key_order}
use Rattle.mv_values.specs.Patching.{row_of, applied, found_by}
use Rattle.mv_values.specs.Preds.{matches, admits, sees}
use Rattle.mv_values.specs.Tables.{rows_at, columns_at, key_columns}
use Rattle.mv_record.proofs.Rising.{Above, Rises, rises_from, same_rows, unadmitted}
use Rattle.mv_record.proofs.Patching.{row_of-found, rising_found, row_applied}
use Rattle.mv_recorded.specs.Asking.{KnowsKey}
use Rattle.mv_record.specs.Databases.{IsDatabaseOf}
use Rattle.mv_recorded.specs.Own.{Each}
use Rattle.mv_recorded.specs.Alike.{Alike, SeenAlike}
use Rattle.mv_recorded.proofs.Matching.{admitted}
use Rattle.mv_recorded.proofs.Alike.{same_columns}
use Rattle.mv_recorded.proofs.Congruent.{all_wide}
use Rattle.mv_history.specs.declared.change.Change.{Change}
use Rattle.mv_history.specs.Changes.{Covers}
use Rattle.mv_soundness.proofs.Seeing.{LongAlike, Merged, hits_by, key_seen}

-- Rows as they are seen

abbrev seen_row : List ℕ → Keyed → Keyed
seen_row cs item = record { key = item.key; row = columns_of item.row cs }

abbrev seen_rows : List ℕ → List Keyed → List Keyed
seen_rows cs rows = map (seen_row cs) rows

seen_above : (cs : List ℕ) (key : List Value) (xs : List Keyed) → Above key xs → Above key (seen_rows cs xs)
seen_above cs key [] h = tt
seen_above cs key (x ∷ xs) h = (h.0, seen_above cs key xs h.1)

seen_rises : (cs : List ℕ) (xs : List Keyed) → Rises xs → Rises (seen_rows cs xs)
seen_rises cs [] h = tt
seen_rises cs (x ∷ xs) h = (seen_above cs x.key xs h.0, seen_rises cs xs h.1)

seen_under : (cs : List ℕ) (xs : List Keyed) (key : List Value) → row_of (seen_rows cs xs) key ≡ option_map (λ r. columns_of r cs) (row_of xs key)
seen_under cs [] key = refl
seen_under cs (x ∷ xs) key = by (is_eq (key_order x.key key)) (seen_under cs xs key)
  where
    by : (b : Bool) → row_of (seen_rows cs xs) key ≡ option_map (λ r. columns_of r cs) (row_of xs key)
        → cond b (Some (columns_of x.row cs)) (row_of (seen_rows cs xs) key) ≡ option_map (λ r. columns_of r cs) (cond b (Some x.row) (row_of xs key))
    by true h = refl
    by false h = h

alike_of : (cs : List ℕ) (xs ys : List Keyed) → seen_rows cs xs ≡ seen_rows cs ys → Alike cs xs ys
alike_of cs [] [] h = tt
alike_of cs (x ∷ xs) (y ∷ ys) h =
    let first : seen_row cs x ≡ seen_row cs y = cc in
    let rest : seen_rows cs xs ≡ seen_rows cs ys = cc in
    (ap (λ (i : Keyed). i.key) first, same_columns x.row y.row cs (ap (λ (i : Keyed). i.row) first), alike_of cs xs ys rest)
alike_of cs [] (y ∷ ys) h = cc
alike_of cs (x ∷ xs) [] h = cc

-- the same is seen under each key
found_alike : (p : Pred) (db new : List (List Keyed)) → ((t : ℕ) → IsRising (rows_at db t)) → ((t : ℕ) → IsRising (rows_at new t))
    → ((key : List Value) → sees p (row_of (rows_at db p.table) key) ≡ sees p (row_of (rows_at new p.table) key)) → SeenAlike p db new
found_alike p db new h k same =
    alike_of p.columns (found_by p db) (found_by p new)
    (same_rows (seen_rows p.columns (found_by p db)) (seen_rows p.columns (found_by p new)) (seen_rises p.columns (found_by p db) (rises_from (found_by p db) (rising_found p db h)))
    (seen_rises p.columns (found_by p new) (rises_from (found_by p new) (rising_found p new k)))
    (λ key. one db h key ∙ (same key ∙ sym (one new k key))))
  where
    one : (d : List (List Keyed)) → ((t : ℕ) → IsRising (rows_at d t)) → (key : List Value) → row_of (seen_rows p.columns (found_by p d)) key ≡ sees p (row_of (rows_at d p.table) key)
    one d r key = seen_under p.columns (found_by p d) key ∙ ap (option_map (λ r. columns_of r p.columns)) (row_of-found p d key r)

-- Rows as wide as their table

abbrev WideRow : ℕ → Option (List Value) → Type 0
WideRow n None = Unit {0}
WideRow n (Some row) = length row ≡ n

wide_row : (n : ℕ) (rows : List Keyed) (key : List Value) → Each (λ (item : Keyed). length item.row ≡ n) rows → WideRow n (row_of rows key)
wide_row n [] key h = tt
wide_row n (x ∷ xs) key h = by (is_eq (key_order x.key key)) (wide_row n xs key h.1)
  where
    by : (b : Bool) → WideRow n (row_of xs key) → WideRow n (cond b (Some x.row) (row_of xs key))
    by true k = h.0
    by false k = k

long_alike : (n : ℕ) (a b : Option (List Value)) → WideRow n a → WideRow n b → LongAlike a b
long_alike n None None h k = tt
long_alike n (Some a) (Some b) h k = h ∙ sym k
long_alike n None (Some b) h k = tt
long_alike n (Some a) None h k = tt

-- The law

abbrev pub Places : List TableInfo → Pred → Type 0
Places tables p = All (IsPlaced (key_columns tables p.table)) p.tests

past : {A : Type 0} (xs : List (List A)) (n : ℕ) → length xs ≤ n → slice_index_or xs n [] ≡ []
past [] n h = refl
past (x ∷ xs) zero h = absurd (omega (arith, h))
past (x ∷ xs) (suc n) h = past xs n (omega (arith, h))

pub seen_alike : (tables : List TableInfo) (p : Pred) (db new : List (List Keyed)) (vs ws : List Write) (changes : List Change) → Places tables p → IsDatabaseOf tables db → IsDatabaseOf tables new → IsDatabaseOf tables (applied vs db) → IsDatabaseOf tables (applied ws new)
    → Covers changes db new → Merged p vs ws → Each (λ c. hits_by vs c p ≡ false) changes → SeenAlike p (applied vs db) (applied ws new)
seen_alike tables p db new vs ws changes places f g fv gw covers merged unhit = by (nat_lt p.table (length tables)) refl
  where
    by : (b : Bool) → nat_lt p.table (length tables) ≡ b → SeenAlike p (applied vs db) (applied ws new)
    by false e =
        let none : (d : List (List Keyed)) → IsDatabaseOf tables d → rows_at d p.table ≡ [] = λ d fits. past d p.table (let le : length tables ≤ p.table = grind (arith, nat_tests) in omega (arith, le, fits.size)) in
        subst (λ l. Alike p.columns l (found_by p (applied ws new))) (sym (ap (λ l. filter (λ (item : Keyed). matches p item.row) l) (none (applied vs db) fv)))
        (subst (λ l. Alike p.columns [] l) (sym (ap (λ l. filter (λ (item : Keyed). matches p item.row) l) (none (applied ws new) gw))) tt)
    by true e = found_alike p (applied vs db) (applied ws new) fv.rising gw.rising (λ key. under key (admits p key) refl)
      where
        lt : p.table < length tables
        lt = grind (arith, nat_tests)

        knows : KnowsKey tables p
        knows = record { table = lt; places = places }

        under : (key : List Value) (b : Bool) → admits p key ≡ b → sees p (row_of (rows_at (applied vs db) p.table) key) ≡ sees p (row_of (rows_at (applied ws new) p.table) key)
        under key false not' =
            ap (option_map (λ r. columns_of r p.columns)) (unadmitted p (rows_at (applied vs db) p.table) key (admitted tables p (applied vs db) knows fv.keys) not'
            ∙ sym (unadmitted p (rows_at (applied ws new) p.table) key (admitted tables p (applied ws new) knows gw.keys) not'))
        under key true adm =
            ap (sees p) (row_applied vs db p.table key (omega (arith, lt, f.size)) f.rising)
            ∙ (key_seen p key vs ws changes (row_of (rows_at db p.table) key) (row_of (rows_at new p.table) key) adm merged unhit (covers p.table key)
            (long_alike (length (columns_at tables p.table)) (row_of (rows_at db p.table) key) (row_of (rows_at new p.table) key) (wide_row _ (rows_at db p.table) key (all_wide tables db p.table f.rows)) (wide_row _ (rows_at new p.table) key (all_wide tables new p.table g.rows)))
            ∙ sym (ap (sees p) (row_applied ws new p.table key (omega (arith, lt, g.size)) g.rising)))
