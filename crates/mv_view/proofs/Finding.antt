-- Rows that are copied one after another.
use Rattle.std.proofs.Common.{◌≡◌, ℕ, zero, suc, ◌<◌, Bool, List, [], ◌∷◌, length, take, slice_index_or, refl, sym, subst, ◌∙◌, arith}
use Rattle.std.specs.List.{filter, All}
use Rattle.std.proofs.lemmas.List.{get_or-take, length-take}
use Rattle.std.proofs.lemmas.List.Elements.{All-filter}
use Rattle.mv_values.specs.declared.rows.Keyed.{Keyed}
use Rattle.mv_values.specs.Keys.{IsRising, IsBelow}

-- the rows that were kept of those before one stand below it
pub kept_below : (p : Keyed → Bool) (rows : List Keyed) (i : ℕ) (d : Keyed) → IsRising rows → i < length rows → All (IsBelow (slice_index_or rows i d).key) (filter p (take i rows))
kept_below p rows i d rising lt =
    All-filter p (IsBelow (slice_index_or rows i d).key) (take i rows) (λ k e short.
    let front : k < i = omega (arith, short, length-take i rows) in
    let is : slice_index_or (take i rows) k e ≡ slice_index_or rows k e = get_or-take i rows k e front in
    let here : slice_index_or rows k e ≡ slice_index_or rows k d = within_any rows k e d (omega (arith, front, lt)) in
    subst (λ (x : Keyed). IsBelow (slice_index_or rows i d).key x) (sym (is ∙ here)) (rising k i d front lt))
  where
    within_any : (items : List Keyed) (k : ℕ) (x y : Keyed) → k < length items → slice_index_or items k x ≡ slice_index_or items k y
    within_any [] k x y h = absurd (omega (arith, h))
    within_any (z ∷ items) zero x y h = refl
    within_any (z ∷ items) (suc k) x y h = within_any items k x y (omega (arith, h))
