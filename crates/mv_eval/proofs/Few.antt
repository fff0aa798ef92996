-- Lists of different numbers are no longer than what bounds the numbers. So a key has few columns.
use Rattle.std.proofs.Common.{◌≡◌, ◌≤◌, ◌<◌, ℕ, zero, suc, ◌==◌, Bool, true, false, cond, not, List, [], ◌∷◌, All, length, refl, sym, ◌∙◌, arith}
use Rattle.std.specs.Prelude.{AllPairs}
use Rattle.std.proofs.lemmas.Bool.Decides.{eqb_tells}
use Rattle.std.specs.List.{filter}
use Rattle.mv_values.specs.declared.schema.TableInfo.{TableInfo}
use Rattle.mv_values.specs.Tables.{key_columns}
use Rattle.mv_catalog.specs.Text.{IsTable}

-- By recursion

-- it is so of each
abbrev pub Each : {A : Type 0} → (A → Type 0) → List A → Type 0
Each P [] = Unit {0}
Each P (x ∷ xs) = P x × Each P xs

-- it is so of each with each later one
abbrev pub Pairs : {A : Type 0} → (A → A → Type 0) → List A → Type 0
Pairs R [] = Unit {0}
Pairs R (x ∷ xs) = Each (R x) xs × Pairs R xs

-- a fact on all items, by recursion
pub each_of : {A : Type 0} (P : A → Type 0) (xs : List A) → All P xs → Each P xs
each_of P [] h = tt
each_of P (x ∷ xs) h = (h 0 x (omega arith), each_of P xs (λ k d lt. h (suc k) d (omega (arith, lt))))

-- a fact on all pairs, by recursion
pub pairs_of : {A : Type 0} (R : A → A → Type 0) (xs : List A) → AllPairs R xs → Pairs R xs
pairs_of R [] h = tt
pairs_of R (x ∷ xs) h =
    (each_of (R x) xs (λ j d lt. h 0 (suc j) d (omega arith) (omega (arith, lt))), pairs_of R xs (λ i j d lt within. h (suc i) (suc j) d (omega (arith, lt)) (omega (arith, within))))

-- what follows from a fact on each item is so of each
pub each_weaker : {A : Type 0} (P Q : A → Type 0) (xs : List A) → ((x : A) → P x → Q x) → Each P xs → Each Q xs
each_weaker P Q [] f h = tt
each_weaker P Q (x ∷ xs) f h = (f x h.0, each_weaker P Q xs f h.1)

-- what follows from a fact on each pair is so of each
pub pairs_weaker : {A : Type 0} (R S : A → A → Type 0) (xs : List A) → ((x y : A) → R x y → S x y) → Pairs R xs → Pairs S xs
pairs_weaker R S [] f h = tt
pairs_weaker R S (x ∷ xs) f h = (each_weaker (R x) (S x) xs (f x) h.0, pairs_weaker R S xs f h.1)

-- what is so of each is so of those that are kept
pub each_kept : {A : Type 0} (p : A → Bool) (P Q : A → Type 0) (xs : List A) → ((x : A) → p x ≡ true → P x → Q x) → Each P xs → Each Q (filter p xs)
each_kept p P Q [] f h = tt
each_kept p P Q (x ∷ xs) f h = by (p x) refl (each_kept p P Q xs f h.1)
  where
    by : (b : Bool) → p x ≡ b → Each Q (filter p xs) → Each Q (cond b (x ∷ filter p xs) (filter p xs))
    by true e more = (f x e h.0, more)
    by false e more = more

-- what is so of all pairs is so of those that are kept
pub pairs_kept : {A : Type 0} (p : A → Bool) (R : A → A → Type 0) (xs : List A) → Pairs R xs → Pairs R (filter p xs)
pairs_kept p R [] h = tt
pairs_kept p R (x ∷ xs) h = by (p x) (pairs_kept p R xs h.1)
  where
    by : (b : Bool) → Pairs R (filter p xs) → Pairs R (cond b (x ∷ filter p xs) (filter p xs))
    by true more = (each_kept p (R x) (R x) xs (λ y e r. r) h.0, more)
    by false more = more

-- Where one at most passes

-- not both pass
abbrev pub NotBoth : {A : Type 0} → (A → Bool) → A → A → Type 0
NotBoth p a b = p a ≡ true → p b ≡ true → ⊥

-- those that don't pass
abbrev pub without : {A : Type 0} → (A → Bool) → List A → List A
without p xs = filter (λ x. not (p x)) xs

-- where none passes, none is gone
all_stay : {A : Type 0} (p : A → Bool) (xs : List A) → Each (λ x. p x ≡ true → ⊥) xs → length xs ≤ length (without p xs)
all_stay p [] h = omega arith
all_stay p (x ∷ xs) h = by (p x) refl (all_stay p xs h.1)
  where
    by : (b : Bool) → p x ≡ b → length xs ≤ length (without p xs) → length (x ∷ xs) ≤ length (cond (not b) (x ∷ without p xs) (without p xs))
    by true e more = absurd (h.0 e)
    by false e more = omega (arith, more)

-- where no two pass, one is gone at most
pub one_goes : {A : Type 0} (p : A → Bool) (xs : List A) → Pairs (NotBoth p) xs → length xs ≤ suc (length (without p xs))
one_goes p [] h = omega arith
one_goes p (x ∷ xs) h = by (p x) refl (one_goes p xs h.1)
  where
    by : (b : Bool) → p x ≡ b → length xs ≤ suc (length (without p xs)) → length (x ∷ xs) ≤ suc (length (cond (not b) (x ∷ without p xs) (without p xs)))
    by true e more = omega (arith, all_stay p xs (each_weaker (NotBoth p x) (λ y. p y ≡ true → ⊥) xs (λ y n. n e) h.0))
    by false e more = omega (arith, more)

-- Different numbers

-- there are no more different numbers below a bound than the bound says
numbers_few : (n : ℕ) (ks : List ℕ) → Pairs (λ a b. a ≡ b → ⊥) ks → Each (λ k. k < n) ks → length ks ≤ n
numbers_few zero [] h w = omega arith
numbers_few zero (k ∷ ks) h w = absurd (omega (arith, w.0))
numbers_few (suc n) ks h w =
    let is_last : ℕ → Bool = λ k. k == n in
    let fewer = numbers_few n (without (λ k. k == n) ks) (pairs_kept (λ k. not (k == n)) (λ a b. a ≡ b → ⊥) ks h) (each_kept (λ k. not (k == n)) (λ k. k < suc n) (λ k. k < n) ks (λ k e lt. below k e lt) w) in
    omega (arith, fewer, one_goes (λ k. k == n) ks (pairs_weaker (λ a b. a ≡ b → ⊥) (NotBoth (λ k. k == n)) ks (λ a b apart ea eb. apart (same a ea ∙ sym (same b eb))) h))
  where
    same : (k : ℕ) → (k == n) ≡ true → k ≡ n
    same k e = grind (arith, eqb_tells)

    below : (k : ℕ) → not (k == n) ≡ true → k < suc n → k < n
    below k e lt = by (k == n) refl e
      where
        by : (b : Bool) → (k == n) ≡ b → not b ≡ true → k < n
        by true is no' = cc
        by false is no' = let apart : k ≡ n → ⊥ = λ s. grind (arith, eqb_tells) in omega (arith, apart, lt)

-- the key of a table has no more columns than the table
pub key_few : (tables : List TableInfo) (t : ℕ) → All IsTable tables → length (key_columns tables t) ≤ 32
key_few [] t h = omega arith
key_few (x ∷ tables) zero h =
    let table = h 0 x (omega arith) in
    omega (arith, table.narrow, numbers_few (length x.columns) x.key (pairs_of (λ c d. c ≡ d → ⊥) x.key table.once) (each_of (λ c. c < length x.columns) x.key table.within))
key_few (x ∷ tables) (suc t) h = key_few tables t (λ k d lt. h (suc k) d (omega (arith, lt)))
