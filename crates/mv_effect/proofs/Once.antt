-- Numbers, each once.
use Rattle.std.proofs.Common.{◌≡◌, ◌<◌, ◌≤◌, ◌+◌, ℕ, ◌==◌, ◌||◌, Bool, true, false, cond, not, List, [], ◌∷◌, ◌++◌, length, take, take_all, slice_index_or, refl, sym, ap, ◌∙◌, arith, append-nil}
use Rattle.std.proofs.lemmas.Grind.{common_steps}
use Rattle.std.proofs.lemmas.Bool.Decides.{eqb_tells}
use Rattle.std.specs.List.{filter, list_any}
use Rattle.mv_recorded.specs.Reading.{each_once}

-- the numbers with one behind them, unless it stands there
abbrev pub with_last : List ℕ → ℕ → List ℕ → List ℕ
with_last xs n once = cond (list_any (λ m. m == n) xs) once (once ++ n ∷ [])

-- what is kept of two lists, one behind the other
filter_both : (p : ℕ → Bool) (xs ys : List ℕ) → filter p (xs ++ ys) ≡ filter p xs ++ filter p ys
filter_both p [] ys = refl
filter_both p (x ∷ xs) ys = by (p x) (filter_both p xs ys)
  where
    by : (b : Bool) → filter p (xs ++ ys) ≡ filter p xs ++ filter p ys → cond b (x ∷ filter p (xs ++ ys)) (filter p (xs ++ ys)) ≡ cond b (x ∷ filter p xs) (filter p xs) ++ filter p ys
    by true h = ap (λ l. x ∷ l) h
    by false h = h

-- another number
abbrev other : ℕ → ℕ → Bool
other x m = not (m == x)

-- two numbers are equal in either order
twin : (b : Bool) (x n : ℕ) → (x == n) ≡ b → (n == x) ≡ b
twin true x n h = grind (arith, eqb_tells)
twin false x n h = grind (arith, eqb_tells)

-- a list of one number without another
alone : (b : Bool) (x n : ℕ) → (x == n) ≡ b → filter (other x) (n ∷ []) ≡ cond b [] (n ∷ [])
alone true x n h = ap (λ c. cond (not c) (n ∷ []) []) (twin true x n h)
alone false x n h = ap (λ c. cond (not c) (n ∷ []) []) (twin false x n h)

-- each once, with a last one
pub once_last : (xs : List ℕ) (n : ℕ) → each_once (xs ++ n ∷ []) ≡ with_last xs n (each_once xs)
once_last [] n = refl
once_last (x ∷ xs) n =
    ap (λ l. x ∷ filter (other x) l) (once_last xs n) ∙ by (list_any (λ m. m == n) xs) (x == n) refl
  where
    by : (c b : Bool) → (x == n) ≡ b → x ∷ filter (other x) (cond c (each_once xs) (each_once xs ++ n ∷ [])) ≡ cond (b || c) (x ∷ filter (other x) (each_once xs)) ((x ∷ filter (other x) (each_once xs)) ++ n ∷ [])
    by true true h = refl
    by true false h = refl
    by false b h = ap (λ l. x ∷ l) (filter_both (other x) (each_once xs) (n ∷ []) ∙ ap (λ l. filter (other x) (each_once xs) ++ l) (alone b x n h)) ∙ end b
      where
        end : (b : Bool) → x ∷ (filter (other x) (each_once xs) ++ cond b [] (n ∷ [])) ≡ cond (b || false) (x ∷ filter (other x) (each_once xs)) ((x ∷ filter (other x) (each_once xs)) ++ n ∷ [])
        end true = ap (λ l. x ∷ l) (append-nil (filter (other x) (each_once xs)))
        end false = refl

-- the first numbers, each once, with one number more
pub once_more : (xs : List ℕ) (i d : ℕ) → i < length xs → each_once (take (i + 1) xs) ≡ with_last (take i xs) (slice_index_or xs i d) (each_once (take i xs))
once_more xs i d lt = ap each_once (take_more xs i d lt) ∙ once_last (take i xs) (slice_index_or xs i d)
  where
    take_more : (ys : List ℕ) (j e : ℕ) → j < length ys → take (j + 1) ys ≡ take j ys ++ slice_index_or ys j e ∷ []
    take_more ys j e lt = grind (arith, common_steps)

-- one that stands there already
pub once_there : (xs : List ℕ) (i d : ℕ) → i < length xs → list_any (λ m. m == slice_index_or xs i d) (take i xs) ≡ true → each_once (take i xs) ≡ each_once (take (i + 1) xs)
once_there xs i d lt h = sym (once_more xs i d lt ∙ ap (λ b. cond b (each_once (take i xs)) (each_once (take i xs) ++ slice_index_or xs i d ∷ [])) h)

-- one that is new
pub once_new : (xs : List ℕ) (i d : ℕ) → i < length xs → list_any (λ m. m == slice_index_or xs i d) (take i xs) ≡ false → each_once (take i xs) ++ slice_index_or xs i d ∷ [] ≡ each_once (take (i + 1) xs)
once_new xs i d lt h = sym (once_more xs i d lt ∙ ap (λ b. cond b (each_once (take i xs)) (each_once (take i xs) ++ slice_index_or xs i d ∷ [])) h)

-- when all numbers were taken
pub once_all : (xs : List ℕ) (i : ℕ) → length xs ≤ i → each_once (take i xs) ≡ each_once xs
once_all xs i le = ap each_once (take_all i xs le)
