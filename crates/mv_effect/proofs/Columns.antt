-- Columns that are added one by one, each once.
use Rattle.std.proofs.Math.ListN.{get_or-append}
use Rattle.std.proofs.Common.{◌≡◌, ◌<◌, ◌+◌, ℕ, zero, suc, ◌==◌, ◌||◌, Bool, true, false, cond, not, List, [], ◌∷◌, ◌++◌, All, length, map, drop, slice_index_or, refl, sym, ap, subst, ◌∙◌, arith, append-nil, append_assoc, length-append}
use Rattle.std.proofs.lemmas.Bool.Decides.{eqb_tells}
use Rattle.std.proofs.lemmas.List.{drop_more}
use Rattle.std.specs.List.{filter, list_any}
use Rattle.mv_recorded.specs.Reading.{each_once}
use Rattle.mv_log.specs.Logged.{once_more}
use Rattle.mv_effect.specs.Asking.{all_once}
use Rattle.mv_effect.proofs.Once.{once_last}

-- another number is there as often among those that aren't a third
kept_apart : (x n : ℕ) → (x == n) ≡ false → (ys : List ℕ) → list_any (λ m. m == n) (filter (λ m. not (m == x)) ys) ≡ list_any (λ m. m == n) ys
kept_apart x n apart [] = refl
kept_apart x n apart (y ∷ ys) = by (y == x) refl (kept_apart x n apart ys)
  where
    differs : (y == x) ≡ true → (b : Bool) → (y == n) ≡ b → b ≡ false
    differs same true is = let e : ⊥ = grind (arith, eqb_tells) in absurd e
    differs same false is = refl

    by : (b : Bool) → (y == x) ≡ b → list_any (λ m. m == n) (filter (λ m. not (m == x)) ys) ≡ list_any (λ m. m == n) ys
        → list_any (λ m. m == n) (cond (not b) (y ∷ filter (λ m. not (m == x)) ys) (filter (λ m. not (m == x)) ys)) ≡ ((y == n) || list_any (λ m. m == n) ys)
    by true same h = h ∙ ap (λ b. b || list_any (λ m. m == n) ys) (sym (differs same (y == n) refl))
    by false same h = ap (λ b. (y == n) || b) h

-- a number is among the numbers, each once, where it is among them
once_in : (xs : List ℕ) (n : ℕ) → list_any (λ m. m == n) (each_once xs) ≡ list_any (λ m. m == n) xs
once_in [] n = refl
once_in (x ∷ xs) n = by (x == n) refl (once_in xs n)
  where
    by : (b : Bool) → (x == n) ≡ b → list_any (λ m. m == n) (each_once xs) ≡ list_any (λ m. m == n) xs
        → (b || list_any (λ m. m == n) (filter (λ m. not (m == x)) (each_once xs))) ≡ (b || list_any (λ m. m == n) xs)
    by true is h = refl
    by false is h = kept_apart x n is (each_once xs) ∙ h

-- one number more
once_step : (xs : List ℕ) (n : ℕ) → once_more (each_once xs) n ≡ each_once (xs ++ n ∷ [])
once_step xs n = ap (λ b. cond b (each_once xs) (each_once xs ++ n ∷ [])) (once_in xs n) ∙ sym (once_last xs n)

all_from : (xs ys : List ℕ) → all_once (each_once xs) ys ≡ each_once (xs ++ ys)
all_from xs [] = ap each_once (sym (append-nil xs))
all_from xs (y ∷ ys) = ap (λ cs. all_once cs ys) (once_step xs y) ∙ (all_from (xs ++ y ∷ []) ys ∙ ap each_once (append_assoc xs (y ∷ []) ys))

-- added one by one to none, they are the columns, each once
pub all_are : (cs : List ℕ) → all_once [] cs ≡ each_once cs
all_are cs = all_from [] cs

-- more of them, one list behind the other
pub all_then : (cs xs ys : List ℕ) → all_once (all_once cs xs) ys ≡ all_once cs (xs ++ ys)
all_then cs [] ys = refl
all_then cs (x ∷ xs) ys = all_then (once_more cs x) xs ys

-- what holds of the items of two lists holds of those of each
pub all_front : {A : Type 0} (P : A → Type 0) (xs ys : List A) → All P (xs ++ ys) → All P xs
all_front P xs ys h k d lt = subst P (get_or-append xs ys d k lt) (h k d (omega (arith, length-append xs ys, lt)))

pub all_back : {A : Type 0} (P : A → Type 0) (xs ys : List A) → All P (xs ++ ys) → All P ys
all_back P [] ys h = h
all_back P (x ∷ xs) ys h = all_back P xs ys (λ k d lt. h (suc k) d (omega (arith, lt)))

pub all_mapped : {A B : Type 0} (P : B → Type 0) (f : A → B) (xs : List A) → All P (map f xs) → All (λ x. P (f x)) xs
all_mapped P f [] h k d lt = let no : ⊥ = omega (arith, lt) in absurd no
all_mapped P f (x ∷ xs) h zero d lt = h zero (f d) (omega arith)
all_mapped P f (x ∷ xs) h (suc k) d lt = all_mapped P f xs (λ j e l. h (suc j) e (omega (arith, l))) k d (omega (arith, lt))

-- the items from a place on begin with the one there
pub from_here : {A : Type 0} (xs : List A) (i : ℕ) (x : A) → i < length xs → x ≡ slice_index_or xs i x → drop i xs ≡ x ∷ drop (i + 1) xs
from_here xs i x lt is = drop_more xs i x lt ∙ ap (λ y. y ∷ drop (i + 1) xs) (sym is)
