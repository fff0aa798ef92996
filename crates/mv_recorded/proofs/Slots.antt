-- Variables that are set to the values that they have behind a statement, each once.
use Rattle.std.proofs.Common.{◌≡◌, ◌⊎◌, inl, inr, ℕ, zero, suc, ◌==◌, ◌≤◌, Bool, true, false, cond, not, List, [], ◌∷◌, ◌++◌, length, slice_index_or, refl, sym, ap, subst, ◌∙◌, arith}
use Rattle.std.proofs.lemmas.Bool.Decides.{eqb_tells}
use Rattle.std.specs.List.{filter}
use Rattle.mv_values.specs.declared.value.Value.{Value}
use Rattle.mv_eval.specs.declared.state.Env.{Env}
use Rattle.mv_eval.specs.declared.state.Content.{Content}
use Rattle.mv_eval.specs.declared.state.Content.TheVariants.{Scalar}
use Rattle.mv_eval.specs.Env.{unset, put_at, scalar_in, scalar_at, truth, with_value, with_values, with_found}
use Rattle.mv_recorded.specs.Effect.{with_slots}
use Rattle.mv_recorded.specs.Own.{Within}
use Rattle.mv_recorded.specs.Reading.{each_once}
use Rattle.mv_recorded.specs.Effects.{slots_behind}

-- Places

pub put_same : (hs : List Content) (x : ℕ) (g h : Content) → put_at (put_at hs x g) x h ≡ put_at hs x h
put_same [] zero g h = refl
put_same [] (suc x) g h = ap (λ l. unset ∷ l) (put_same [] x g h)
put_same (k ∷ hs) zero g h = refl
put_same (k ∷ hs) (suc x) g h = ap (λ l. k ∷ l) (put_same hs x g h)

put_other : (hs : List Content) (x y : ℕ) (g h : Content) → (x ≡ y → ⊥) → put_at (put_at hs x g) y h ≡ put_at (put_at hs y h) x g
put_other [] zero zero g h apart = absurd (apart refl)
put_other [] zero (suc y) g h apart = refl
put_other [] (suc x) zero g h apart = refl
put_other [] (suc x) (suc y) g h apart = ap (λ l. unset ∷ l) (put_other [] x y g h (λ e. apart (ap suc e)))
put_other (k ∷ hs) zero zero g h apart = absurd (apart refl)
put_other (k ∷ hs) zero (suc y) g h apart = refl
put_other (k ∷ hs) (suc x) zero g h apart = refl
put_other (k ∷ hs) (suc x) (suc y) g h apart = ap (λ l. k ∷ l) (put_other hs x y g h (λ e. apart (ap suc e)))

pub get_same : (hs : List Content) (x : ℕ) (h : Content) → slice_index_or (put_at hs x h) x unset ≡ h
get_same [] zero h = refl
get_same [] (suc x) h = get_same [] x h
get_same (k ∷ hs) zero h = refl
get_same (k ∷ hs) (suc x) h = get_same hs x h

pub get_other : (hs : List Content) (x y : ℕ) (h : Content) → (x ≡ y → ⊥) → slice_index_or (put_at hs x h) y unset ≡ slice_index_or hs y unset
get_other [] zero zero h apart = absurd (apart refl)
get_other [] zero (suc y) h apart = refl
get_other [] (suc x) zero h apart = refl
get_other [] (suc x) (suc y) h apart = get_other [] x y h (λ e. apart (ap suc e))
get_other (k ∷ hs) zero zero h apart = absurd (apart refl)
get_other (k ∷ hs) zero (suc y) h apart = refl
get_other (k ∷ hs) (suc x) zero h apart = refl
get_other (k ∷ hs) (suc x) (suc y) h apart = get_other hs x y h (λ e. apart (ap suc e))

-- Variables

abbrev with_place : Env → List Content → Env
with_place env hs = record env { held = hs }

pub set_has : (env : Env) (x : ℕ) (v : Value) → scalar_at (with_value env x v) x ≡ v
set_has env x v = ap scalar_in (get_same env.held x (Scalar v))

-- what `:found` was set to
pub found_has : (env : Env) (b : Bool) → scalar_at (with_found env b) env.found ≡ truth b
found_has env b = set_has env env.found (truth b)

-- the number of `:found` stays when targets take values
pub same_found : (env : Env) (xs : List ℕ) (vs : List Value) → (with_values env xs vs).found ≡ env.found
same_found env [] vs = refl
same_found env (x ∷ xs) [] = refl
same_found env (x ∷ xs) (v ∷ vs) = same_found (with_value env x v) xs vs

-- setting it to its own value changes nothing
abbrev pub IsSet : Env → ℕ → Type 0
IsSet env x = with_value env x (scalar_at env x) ≡ env

pub is_set : (env : Env) (x : ℕ) (v : Value) → IsSet (with_value env x v) x
is_set env x v =
    ap (λ w. with_value (with_value env x v) x w) (set_has env x v) ∙ ap (with_place env) (put_same env.held x (Scalar v) (Scalar v))

pub stays_set : (env : Env) (x y : ℕ) (v : Value) → IsSet env x → IsSet (with_value env y v) x
stays_set env x y v h = by_test (y == x) refl
  where
    by_test : (b : Bool) → (y == x) ≡ b → IsSet (with_value env y v) x
    by_test true e = let same : y ≡ x = grind (arith, eqb_tells) in subst (λ z. IsSet (with_value env z v) x) (sym same) (is_set env x v)
    by_test false e =
        let apart : y ≡ x → ⊥ = λ same. grind (arith, eqb_tells) in
        ap (λ k. with_value (with_value env y v) x (scalar_in k)) (get_other env.held y x (Scalar v) apart)
        ∙ (ap (with_place env) (put_other env.held y x (Scalar v) (Scalar (scalar_at env x)) apart) ∙ ap (λ e. with_value e y v) h)

abbrev pub AllSet : Env → List ℕ → Type 0
AllSet env [] = Unit {0}
AllSet env (x ∷ xs) = IsSet env x × AllSet env xs

pub all_stay_set : (env : Env) (xs : List ℕ) (y : ℕ) (v : Value) → AllSet env xs → AllSet (with_value env y v) xs
all_stay_set env [] y v h = tt
all_stay_set env (x ∷ xs) y v h = (stays_set env x y v h.0, all_stay_set env xs y v h.1)

stays_through : (env : Env) (x : ℕ) (ys : List ℕ) (vs : List Value) → IsSet env x → IsSet (with_values env ys vs) x
stays_through env x [] vs h = h
stays_through env x (y ∷ ys) [] h = h
stays_through env x (y ∷ ys) (v ∷ vs) h = stays_through (with_value env y v) x ys vs (stays_set env x y v h)

pub values_set : (env : Env) (xs : List ℕ) (vs : List Value) → length xs ≤ length vs → AllSet (with_values env xs vs) xs
values_set env [] vs le = tt
values_set env (x ∷ xs) [] le = absurd (omega (arith, le))
values_set env (x ∷ xs) (v ∷ vs) le = (stays_through (with_value env x v) x xs vs (is_set env x v), values_set (with_value env x v) xs vs (omega (arith, le)))

-- Lists of variables

abbrev pub AllWithin : List ℕ → List ℕ → Type 0
AllWithin [] ys = Unit {0}
AllWithin (x ∷ xs) ys = Within x ys × AllWithin xs ys

-- a variable that is set later was not set in vain
pub absorbed : (env next : Env) (x : ℕ) (v : Value) (xs : List ℕ) → Within x xs → with_slots (slots_behind next xs) (with_value env x v) ≡ with_slots (slots_behind next xs) env
absorbed env next x v [] h = absurd h
absorbed env next x v (y ∷ ys) h = by_test (x == y) refl h (absorbed (with_value env y (scalar_at next y)) next x v ys)
  where
    by_test : (b : Bool) → (x == y) ≡ b → (x ≡ y) ⊎ Within x ys
        → (Within x ys → with_slots (slots_behind next ys) (with_value (with_value env y (scalar_at next y)) x v) ≡ with_slots (slots_behind next ys) (with_value env y (scalar_at next y)))
        → with_slots (slots_behind next ys) (with_value (with_value env x v) y (scalar_at next y)) ≡ with_slots (slots_behind next ys) (with_value env y (scalar_at next y))
    by_test true e k rest =
        let same : x ≡ y = grind (arith, eqb_tells) in
        ap (with_slots (slots_behind next ys)) (subst (λ z. with_value (with_value env z v) y (scalar_at next y) ≡ with_value env y (scalar_at next y)) (sym same)
        (ap (with_place env) (put_same env.held y (Scalar v) (Scalar (scalar_at next y)))))
    by_test false e (inl same) rest = absurd (let apart : x ≡ y → ⊥ = λ s. grind (arith, eqb_tells) in apart same)
    by_test false e (inr k) rest =
        let apart : x ≡ y → ⊥ = λ same. grind (arith, eqb_tells) in
        ap (with_slots (slots_behind next ys)) (ap (with_place env) (put_other env.held x y (Scalar v) (Scalar (scalar_at next y)) apart))
        ∙ rest k

pub all_absorbed : (env next : Env) (ys : List ℕ) (vs : List Value) (xs : List ℕ) → AllWithin ys xs
    → with_slots (slots_behind next xs) (with_values env ys vs) ≡ with_slots (slots_behind next xs) env
all_absorbed env next [] vs xs h = refl
all_absorbed env next (y ∷ ys) [] xs h = refl
all_absorbed env next (y ∷ ys) (v ∷ vs) xs h = all_absorbed (with_value env y v) next ys vs xs h.1 ∙ absorbed env next y v xs h.0

pub nothing_new : (env : Env) (xs : List ℕ) → AllSet env xs → with_slots (slots_behind env xs) env ≡ env
nothing_new env [] h = refl
nothing_new env (x ∷ xs) h = ap (with_slots (slots_behind env xs)) h.0 ∙ nothing_new env xs h.1

-- Each once

pub kept_within : (x : ℕ) (p : ℕ → Bool) (xs : List ℕ) → p x ≡ true → Within x xs → Within x (filter p xs)
kept_within x p [] is h = absurd h
kept_within x p (y ∷ ys) is h = by_test (p y) refl h (kept_within x p ys is)
  where
    by_test : (b : Bool) → p y ≡ b → (x ≡ y) ⊎ Within x ys → (Within x ys → Within x (filter p ys)) → Within x (cond b (y ∷ filter p ys) (filter p ys))
    by_test true e (inl same) rest = inl same
    by_test true e (inr k) rest = inr (rest k)
    by_test false e (inl same) rest = let no : p x ≡ false = ap p same ∙ e in cc
    by_test false e (inr k) rest = rest k

pub once_within : (x : ℕ) (xs : List ℕ) → Within x xs → Within x (each_once xs)
once_within x [] h = absurd h
once_within x (y ∷ ys) (inl same) = inl same
once_within x (y ∷ ys) (inr h) = by_test (x == y) refl (once_within x ys h)
  where
    by_test : (b : Bool) → (x == y) ≡ b → Within x (each_once ys) → (x ≡ y) ⊎ Within x (filter (λ m. not (m == y)) (each_once ys))
    by_test true e k = inl (grind (arith, eqb_tells))
    by_test false e k = inr (kept_within x (λ m. not (m == y)) (each_once ys) (ap not e) k)

filter_set : (env : Env) (p : ℕ → Bool) (xs : List ℕ) → AllSet env xs → AllSet env (filter p xs)
filter_set env p [] h = tt
filter_set env p (x ∷ xs) h = by_test (p x) (filter_set env p xs h.1)
  where
    by_test : (b : Bool) → AllSet env (filter p xs) → AllSet env (cond b (x ∷ filter p xs) (filter p xs))
    by_test true k = (h.0, k)
    by_test false k = k

once_set : (env : Env) (xs : List ℕ) → AllSet env xs → AllSet env (each_once xs)
once_set env [] h = tt
once_set env (x ∷ xs) h = (h.0, filter_set env (λ m. not (m == x)) (each_once xs) (once_set env xs h.1))

within_more : (x : ℕ) (xs ys : List ℕ) → Within x xs → Within x (xs ++ ys)
within_more x [] ys h = absurd h
within_more x (z ∷ xs) ys (inl same) = inl same
within_more x (z ∷ xs) ys (inr h) = inr (within_more x xs ys h)

pub last_within : (x : ℕ) (xs : List ℕ) → Within x (xs ++ x ∷ [])
last_within x [] = inl refl
last_within x (y ∷ xs) = inr (last_within x xs)

pub all_within_once : (xs ys zs : List ℕ) → ((x : ℕ) → Within x xs → Within x ys) → AllWithin xs (each_once ys ++ zs)
all_within_once [] ys zs h = tt
all_within_once (x ∷ xs) ys zs h = (within_more x (each_once ys) zs (once_within x ys (h x (inl refl))), all_within_once xs ys zs (λ z k. h z (inr k)))

set_both : (env : Env) (xs ys : List ℕ) → AllSet env xs → AllSet env ys → AllSet env (xs ++ ys)
set_both env [] ys h k = k
set_both env (x ∷ xs) ys h k = (h.0, set_both env xs ys h.1 k)

pub once_and_last_set : (env : Env) (xs : List ℕ) (y : ℕ) → AllSet env xs → IsSet env y → AllSet env (each_once xs ++ y ∷ [])
once_and_last_set env xs y h k = set_both env (each_once xs) (y ∷ []) (once_set env xs h) (k, tt)
