-- What is at a place of a list, where one more item comes or one is set.
use Rattle.std.proofs.Common.{◌≡◌, ◌⊎◌, inl, inr, ℕ, zero, suc, ◌<◌, List, [], ◌∷◌, ◌++◌, Some, length, slice_set, refl, ap, arith, rules}
use Rattle.std.specs.Prelude.{slice_get}

-- One more item

pub get_last : {A : Type 0} (xs : List A) (y : A) (c : ℕ) (x : A) → slice_get (xs ++ y ∷ []) c ≡ Some x → (slice_get xs c ≡ Some x) ⊎ ((c ≡ length xs) × (y ≡ x))
get_last [] y zero x is = let same : y ≡ x = search (rules, is) in inr (refl, same)
get_last [] y (suc c) x is = absurd (search (rules, is))
get_last (z ∷ xs) y zero x is = inl is
get_last (z ∷ xs) y (suc c) x is = by (get_last xs y c x is) where
  by : (slice_get xs c ≡ Some x) ⊎ ((c ≡ length xs) × (y ≡ x)) → (slice_get xs c ≡ Some x) ⊎ ((suc c ≡ suc (length xs)) × (y ≡ x))
  by (inl h) = inl h
  by (inr h) = inr (ap suc h.0, h.1)

pub get_front : {A : Type 0} (xs : List A) (y : A) (c : ℕ) (x : A) → slice_get xs c ≡ Some x → slice_get (xs ++ y ∷ []) c ≡ Some x
get_front [] y c x is = absurd (search (rules, is))
get_front (z ∷ xs) y zero x is = is
get_front (z ∷ xs) y (suc c) x is = get_front xs y c x is

pub get_below : {A : Type 0} (xs : List A) (y : A) (k : ℕ) → k < length xs → slice_get (xs ++ y ∷ []) k ≡ slice_get xs k
get_below [] y k h = absurd (omega (arith, h))
get_below (x ∷ xs) y zero h = refl
get_below (x ∷ xs) y (suc k) h = get_below xs y k (omega (arith, h))

pub get_end : {A : Type 0} (xs : List A) (y : A) (n : ℕ) → n ≡ length xs → slice_get (xs ++ y ∷ []) n ≡ Some y
get_end [] y zero is = refl
get_end [] y (suc n) is = absurd (omega (arith, is))
get_end (x ∷ xs) y zero is = absurd (omega (arith, is))
get_end (x ∷ xs) y (suc n) is = get_end xs y n (omega (arith, is))

-- An item that is set

pub get_set : {A : Type 0} (xs : List A) (c d : ℕ) (m x : A) → slice_get (slice_set xs c m) d ≡ Some x → ((d ≡ c) × (m ≡ x)) ⊎ ((d ≡ c → ⊥) × (slice_get xs d ≡ Some x))
get_set [] c d m x is = absurd (search (rules, is))
get_set (y ∷ xs) zero zero m x is = let same : m ≡ x = search (rules, is) in inl (refl, same)
get_set (y ∷ xs) zero (suc d) m x is = inr ((λ e. omega (arith, e)), is)
get_set (y ∷ xs) (suc c) zero m x is = inr ((λ e. omega (arith, e)), is)
get_set (y ∷ xs) (suc c) (suc d) m x is = by (get_set xs c d m x is) where
  by : ((d ≡ c) × (m ≡ x)) ⊎ ((d ≡ c → ⊥) × (slice_get xs d ≡ Some x)) → ((suc d ≡ suc c) × (m ≡ x)) ⊎ ((suc d ≡ suc c → ⊥) × (slice_get xs d ≡ Some x))
  by (inl h) = inl (ap suc h.0, h.1)
  by (inr h) = inr ((λ e. h.0 (omega (arith, e))), h.1)

pub set_there : {A : Type 0} (xs : List A) (c : ℕ) (m x : A) → slice_get xs c ≡ Some x → slice_get (slice_set xs c m) c ≡ Some m
set_there [] c m x is = absurd (search (rules, is))
set_there (y ∷ xs) zero m x is = refl
set_there (y ∷ xs) (suc c) m x is = set_there xs c m x is

pub set_apart : {A : Type 0} (xs : List A) (c d : ℕ) (m : A) → (d ≡ c → ⊥) → slice_get (slice_set xs c m) d ≡ slice_get xs d
set_apart [] c d m ne = refl
set_apart (y ∷ xs) zero zero m ne = absurd (ne refl)
set_apart (y ∷ xs) zero (suc d) m ne = refl
set_apart (y ∷ xs) (suc c) zero m ne = refl
set_apart (y ∷ xs) (suc c) (suc d) m ne = set_apart xs c d m (λ e. ne (ap suc e))
