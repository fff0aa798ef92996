-- Numbers in order, and lists that are told place by place.
use Rattle.std.proofs.Common.{◌≡◌, ◌<◌, ◌≤◌, ◌+◌, ℕ, zero, suc, List, [], ◌∷◌, ◌++◌, length, map, Some, refl, sym, ap, ◌∙◌, add-zero, zero-add, arith}
use Rattle.std.specs.Prelude.{slice_get, slice_index}
use Rattle.mv_values.specs.Counts.{first_numbers}

-- n numbers from a on
abbrev pub numbers_from : ℕ → ℕ → List ℕ
numbers_from a zero = []
numbers_from a (suc n) = a ∷ numbers_from (a + 1) n

numbers_last : (a n : ℕ) → numbers_from a n ++ (a + n) ∷ [] ≡ numbers_from a (suc n)
numbers_last a zero = ap (λ m. m ∷ []) (add-zero a)
numbers_last a (suc n) =
    let e : a + suc n ≡ (a + 1) + n = omega arith in
    ap (λ ms. a ∷ ms) (ap (λ m. numbers_from (a + 1) n ++ m ∷ []) e ∙ numbers_last (a + 1) n)

pub first_numbers_are : (n : ℕ) → first_numbers n ≡ numbers_from 0 n
first_numbers_are zero = refl
first_numbers_are (suc n) = ap (λ ms. ms ++ n ∷ []) (first_numbers_are n) ∙ (ap (λ m. numbers_from 0 n ++ m ∷ []) (sym (zero-add n)) ∙ numbers_last 0 n)

index_from : (a n k : ℕ) → k < n → slice_index (numbers_from a n) k ≡ a + k
index_from a zero k lt = absurd (omega arith)
index_from a (suc n) zero lt = sym (add-zero a)
index_from a (suc n) (suc k) lt = index_from (a + 1) n k (omega arith) ∙ omega arith

-- the number at a place is the place
pub index_numbers : (n k : ℕ) → k < n → slice_index (first_numbers n) k ≡ k
index_numbers n k lt = ap (λ ms. slice_index ms k) (first_numbers_are n) ∙ (index_from 0 n k lt ∙ zero-add k)

told_from : {X : Type 0} (xs : List X) (f : ℕ → X) (a n : ℕ) → length xs ≡ n → ((k : ℕ) → k < n → slice_get xs k ≡ Some (f (a + k))) → xs ≡ map f (numbers_from a n)
told_from [] f a zero len told = refl
told_from [] f a (suc n) len told = absurd (omega arith)
told_from (x ∷ xs) f a zero len told = absurd (omega arith)
told_from (x ∷ xs) f a (suc n) len told =
    let first : Some x ≡ Some (f a) = told 0 (omega arith) ∙ ap (λ m. Some (f m)) (add-zero a) in
    let head : x ≡ f a = cc in
    let tail : xs ≡ map f (numbers_from (a + 1) n) =
    told_from xs f (a + 1) n (omega arith) (λ k lt. told (suc k) (omega arith) ∙ ap (λ m. Some (f m)) (omega arith)) in
    ap (λ y. y ∷ xs) head ∙ ap (λ ys. f a ∷ ys) tail

-- a list with the value of f at each place
pub told_numbers : {X : Type 0} (xs : List X) (f : ℕ → X) (n : ℕ) → length xs ≡ n → ((k : ℕ) → k < n → slice_get xs k ≡ Some (f k)) → xs ≡ map f (first_numbers n)
told_numbers xs f n len told =
    told_from xs f 0 n len (λ k lt. told k lt ∙ ap (λ m. Some (f m)) (sym (zero-add k))) ∙ ap (map f) (sym (first_numbers_are n))

same_from : {X : Type 0} (f g : ℕ → X) (a n : ℕ) → ((k : ℕ) → a ≤ k → k < a + n → f k ≡ g k) → map f (numbers_from a n) ≡ map g (numbers_from a n)
same_from f g a zero same = refl
same_from f g a (suc n) same =
    ap (λ y. y ∷ map f (numbers_from (a + 1) n)) (same a (omega arith) (omega arith))
    ∙ ap (λ ys. g a ∷ ys) (same_from f g (a + 1) n (λ k lo hi. same k (omega arith) (omega arith)))

-- functions that agree below n make the same of the first n numbers
pub same_numbers : {X : Type 0} (f g : ℕ → X) (n : ℕ) → ((k : ℕ) → k < n → f k ≡ g k) → map f (first_numbers n) ≡ map g (first_numbers n)
same_numbers f g n same =
    ap (map f) (first_numbers_are n) ∙ (same_from f g 0 n (λ k lo hi. same k (omega arith)) ∙ ap (map g) (sym (first_numbers_are n)))
