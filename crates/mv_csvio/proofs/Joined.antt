-- Rows that joined one after another.
use Rattle.std.proofs.Common.{◌≡◌, ◌++◌, ◌∷◌, ◌<◌, ◌+◌, ◌⊎◌, inl, inr, ℕ, List, [], map, length, take, drop, sym, ap, subst, ◌∙◌, arith, append_assoc, append-nil}
use Rattle.std.specs.Prelude.{IsPermutation, slice_index_or}
use Rattle.std.proofs.lemmas.List.{drop_more, take_more, map-append, take-append-drop, length-take}
use Rattle.std.proofs.lemmas.List.Sorted.{IsPermutation-trans, IsPermutation-refl, IsPermutation-append_left}
use Rattle.mv_values.specs.declared.value.Value.{Value}
use Rattle.mv_values.specs.declared.rows.Keyed.{Keyed}
use Rattle.mv_values.specs.declared.schema.TableInfo.{TableInfo}
use Rattle.mv_values.specs.declared.value.Value.{Value}
use Rattle.mv_values.specs.Columns.{columns_of}
use Rattle.mv_values.specs.Keys.{IsRising}
use Rattle.mv_csvio.specs.declared.fault.CopyFault.{CopyFault}
use Rattle.mv_csvio.specs.declared.fault.CopyFault.TheVariants as fault
use Rattle.mv_csvio.specs.Joining.{HasJoined, HasKey, IsDuplicate, IsFirstDuplicate, TellsOfValues, under_key}

-- one more row
pub joined_more : (table : TableInfo) (before : List Keyed) (rows : List (List Value)) (row : List Value) (there after : List Keyed)
    → HasJoined table before rows there → IsRising after × IsPermutation (there ++ under_key table row ∷ []) after → HasJoined table before (rows ++ row ∷ []) after
joined_more table before rows row there after h g =
    let whole : (before ++ map (under_key table) rows) ++ under_key table row ∷ [] ≡ before ++ map (under_key table) (rows ++ row ∷ []) =
    append_assoc before (map (under_key table) rows) (under_key table row ∷ []) ∙ ap (λ l. before ++ l) (sym (map-append (under_key table) rows (row ∷ []))) in
    (g.0, subst (λ l. IsPermutation l after) whole (IsPermutation-trans _ _ _ (IsPermutation-append_left (under_key table row ∷ []) _ _ h.1) g.1))

-- no row yet
pub joined_none : (table : TableInfo) (before : List Keyed) → IsRising before → HasJoined table before [] before
joined_none table before h = (h, subst (λ l. IsPermutation l before) (sym (append-nil before)) (IsPermutation-refl before))

pub rising_none : IsRising []
rising_none = λ i j d lt within. absurd (omega (arith, within))

-- the rows up to a place, with the row there
pub rows_so_far : {A : Type 0} (rows : List A) (i : ℕ) (row : A) → i < length rows → row ≡ slice_index_or rows i row → take (i + 1) rows ≡ take i rows ++ row ∷ []
rows_so_far rows i row lt is = take_more rows i row lt ∙ ap (λ r. take i rows ++ r ∷ []) (sym is)

pub rows_from : {A : Type 0} (rows : List A) (i : ℕ) (row : A) → i < length rows → row ≡ slice_index_or rows i row → rows ≡ take i rows ++ row ∷ drop (i + 1) rows
rows_from rows i row lt is = sym (take-append-drop i rows) ∙ ap (λ l. take i rows ++ l) (drop_more rows i row lt ∙ ap (λ r. r ∷ drop (i + 1) rows) (sym is))

pub front_length : {A : Type 0} (rows : List A) (i : ℕ) → i < length rows → length (take i rows) ≡ i
front_length rows i lt = omega (arith, length-take i rows)

pub first_duplicate : (table : TableInfo) (rows : List (List Value)) (i : ℕ) (row : List Value) (there : List Keyed) (number : ℕ) → i < length rows → row ≡ slice_index_or rows i row
    → HasJoined table [] (take i rows) there → HasKey there (columns_of row table.key) → number ≡ i + 1 → IsFirstDuplicate table rows number
first_duplicate table rows i row there number lt is h key n =
    (take i rows, row, drop (i + 1) rows, there, rows_from rows i row lt is, h, key, n ∙ ap (λ k. k + 1) (sym (front_length rows i lt)))

-- the fault of a row that can't join
pub tells_of_values : (table : TableInfo) (rows : List (List Value)) (i : ℕ) (row copy : List Value) (there : List Keyed) (number : ℕ) (f : CopyFault) → i < length rows → row ≡ slice_index_or rows i row
    → HasJoined table [] (take i rows) there → copy ≡ row → number ≡ i + 1 → (f ≡ fault.NoMemory) ⊎ IsDuplicate table there copy number f → (f ≡ fault.NoMemory) ⊎ TellsOfValues table rows f
tells_of_values table rows i row copy there number f lt is h same n (inl e) = inl e
tells_of_values table rows i row copy there number (fault.Duplicate r) lt is h same n (inr d) =
    inr (first_duplicate table rows i row there r lt is h (subst (λ (k : List Value). HasKey there (columns_of k table.key)) same d.1) (d.0 ∙ n))
tells_of_values table rows i row copy there number fault.NoMemory lt is h same n (inr d) = absurd d
tells_of_values table rows i row copy there number (fault.Field r c) lt is h same n (inr d) = absurd d
tells_of_values table rows i row copy there number (fault.Width r) lt is h same n (inr d) = absurd d
