-- The words of a new board, and lists of views after one of them is set or added.
use Rattle.std.proofs.Common.{◌≡◌, ℕ, zero, suc, ◌<◌, ◌⊎◌, List, [], ◌∷◌, ◌++◌, length, slice_index, set, replicate, take, refl, ap, sym, inl, inr, ⊎_elim, arith}
use mathlib.Core.Option.{some, some-ne-none, some-injective}
use lib.ListN.{get_elem?}

pub first_zeros : (n m k : ℕ) → slice_index (take n (replicate m 0)) k ≡ 0
first_zeros zero m k = refl
first_zeros (suc n) zero k = refl
first_zeros (suc n) (suc m) zero = refl
first_zeros (suc n) (suc m) (suc k) = first_zeros n m k

module _ {A : Type 0} where
  pub there_put : (l : List A) (i : ℕ) (a b : A) → get_elem? l i ≡ some a → get_elem? (set l i b) i ≡ some b
  there_put [] i a b e = absurd (some-ne-none a (sym e))
  there_put (x ∷ xs) zero a b e = refl
  there_put (x ∷ xs) (suc i) a b e = there_put xs i a b e

  pub snoc_at : (l : List A) (a b : A) (j : ℕ) → get_elem? (l ++ a ∷ []) j ≡ some b → ((j < length l) × (get_elem? l j ≡ some b)) ⊎ ((j ≡ length l) × (a ≡ b))
  snoc_at [] a b zero e = inr (refl, some-injective a b e)
  snoc_at [] a b (suc j) e = absurd (some-ne-none b (sym e))
  snoc_at (x ∷ xs) a b zero e = inl (omega arith, e)
  snoc_at (x ∷ xs) a b (suc j) e = ⊎_elim (λ (t : (j < length xs) × (get_elem? xs j ≡ some b)). inl (omega (arith, t.0), t.1)) (λ (t : (j ≡ length xs) × (a ≡ b)). inr (ap suc t.0, t.1)) (snoc_at xs a b j e)
