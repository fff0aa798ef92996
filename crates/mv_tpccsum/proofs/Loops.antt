-- One more item of a list.
use Rattle.std.proofs.Common.{◌≡◌, ◌∙◌, ◌<◌, ◌+◌, ℕ, ℤ, List, [], ◌∷◌, ◌++◌, Option, Some, None, length, drop, map, slice_index_or, refl, sym, ap, append_assoc, ◌+ℤ◌}
use Rattle.std.specs.Option.{option_map, option_and_then}
use Rattle.std.proofs.lemmas.List.{drop_more}
use Rattle.std.proofs.Math.IntN.{+ℤ_assoc}
use Rattle.mv_values.specs.declared.rows.Keyed.{Keyed}
use Rattle.mv_values.specs.Columns.{column_of, number}
use Rattle.mv_values.specs.declared.schema.Column.{Column}
use Rattle.mv_tpccsum.specs.Tables.{Entry, column_place, column_places, entry_of, sum_of}

-- the item at a place is the first of those from there on
pub drop_at : {X : Type 0} (xs : List X) (i : ℕ) (x : X) → i < length xs → x ≡ slice_index_or xs i x → drop i xs ≡ x ∷ drop (i + 1) xs
drop_at xs i x lt is = drop_more xs i x lt ∙ ap (λ y. y ∷ drop (i + 1) xs) (sym is)

-- a sum goes over one more number
pub sum_one : (old rest : List ℤ) (z sum new all : ℤ) → old ≡ z ∷ rest → new ≡ sum +ℤ z → sum +ℤ sum_of old ≡ all → new +ℤ sum_of rest ≡ all
sum_one old rest z sum new all shape is so_far =
    ap (λ s. s +ℤ sum_of rest) is ∙ (+ℤ_assoc sum z (sum_of rest) ∙ (ap (λ l. sum +ℤ sum_of l) (sym shape) ∙ so_far))

-- a place is added to those that were found
pub placed : (places : List ℕ) (place : ℕ) (o : Option (List ℕ)) → option_map (λ rest. (places ++ place ∷ []) ++ rest) o ≡ option_map (λ rest. places ++ rest) (option_map (λ rest. place ∷ rest) o)
placed places place None = refl
placed places place (Some rest) = ap Some (append_assoc places (place ∷ []) rest)

-- a name that isn't there decides
pub missing : {B : Type 0} (columns : List Column) (old rest : List (List ℕ)) (name : List ℕ) (f : List ℕ → B) (whole : Option B) → old ≡ name ∷ rest → column_place columns name ≡ None
    → option_map f (column_places columns old) ≡ whole → None ≡ whole
missing columns old rest name f whole shape is so_far =
    sym (ap (λ (o : Option ℕ). option_map f (option_and_then (λ place. option_map (λ places. place ∷ places) (column_places columns rest)) o)) is)
    ∙ (ap (λ l. option_map f (column_places columns l)) (sym shape) ∙ so_far)

-- a name that is there goes over to those that were found
pub found : (columns : List Column) (old rest : List (List ℕ)) (name places : List ℕ) (place : ℕ) (whole : Option (List ℕ)) → old ≡ name ∷ rest → column_place columns name ≡ Some place
    → option_map (λ more. places ++ more) (column_places columns old) ≡ whole → option_map (λ more. (places ++ place ∷ []) ++ more) (column_places columns rest) ≡ whole
found columns old rest name places place whole shape is so_far =
    placed places place (column_places columns rest)
    ∙ (sym (ap (λ (o : Option ℕ). option_map (λ more. places ++ more) (option_and_then (λ place. option_map (λ places. place ∷ places) (column_places columns rest)) o)) is)
    ∙ (ap (λ l. option_map (λ more. places ++ more) (column_places columns l)) (sym shape) ∙ so_far))

-- the number of a row is the first of those from there on
pub number_at_place : (places : List ℕ) (place : ℕ) (rows : List Keyed) (i : ℕ) (item : Keyed) (z : ℤ) → i < length rows → item ≡ slice_index_or rows i item → number (column_of item.row place) ≡ z
    → map (λ (e : Entry). e.1) (map (entry_of places place) (drop i rows)) ≡ z ∷ map (λ (e : Entry). e.1) (map (entry_of places place) (drop (i + 1) rows))
number_at_place places place rows i item z lt is z_is =
    ap (λ (xs : List Keyed). map (λ (e : Entry). e.1) (map (entry_of places place) xs)) (drop_at rows i item lt is)
    ∙ ap (λ n. n ∷ map (λ (e : Entry). e.1) (map (entry_of places place) (drop (i + 1) rows))) z_is
