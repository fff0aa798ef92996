-- Tables moved out of a list, one after another.
use Rattle.std.proofs.Common.{◌≡◌, ℕ, zero, suc, ◌+◌, List, [], ◌∷◌, ◌++◌, Some, drop, slice_get, slice_set, refl, sym, ap, ◌∙◌, append_assoc, add-one}
use Rattle.mv_values.specs.declared.rows.Keyed.{Keyed}
use Rattle.mv_values.specs.Tables.{Tables}

opened : (db : Tables) (t : ℕ) (rows : List Keyed) → slice_get db t ≡ Some rows → drop t db ≡ rows ∷ drop (suc t) db
opened [] t rows h = cc
opened (r ∷ db) zero rows h = let same : r ≡ rows = cc in ap (λ (l : List Keyed). l ∷ db) same
opened (r ∷ db) (suc t) rows h = opened db t rows h

drop_set : (db : Tables) (t : ℕ) → drop (suc t) (slice_set db t []) ≡ drop (suc t) db
drop_set [] t = refl
drop_set (r ∷ db) zero = refl
drop_set (r ∷ db) (suc t) = drop_set db t

-- a table moved over to the others
pub one_moved : (db made all : Tables) (t : ℕ) (rows : List Keyed) → slice_get db t ≡ Some rows → made ++ drop t db ≡ all → (made ++ rows ∷ []) ++ drop (t + 1) (slice_set db t []) ≡ all
one_moved db made all t rows h k =
    append_assoc made (rows ∷ []) (drop (t + 1) (slice_set db t []))
    ∙ (ap (λ (n : ℕ). made ++ rows ∷ drop n (slice_set db t [])) (add-one t)
    ∙ (ap (λ (l : Tables). made ++ rows ∷ l) (drop_set db t) ∙ (ap (λ (l : Tables). made ++ l) (sym (opened db t rows h)) ∙ k)))
