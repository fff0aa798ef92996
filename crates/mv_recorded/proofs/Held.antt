-- What variables hold behind records.
use Rattle.std.proofs.Common.{◌≡◌, ℕ, zero, suc, ◌==◌, ◌<◌, ◌≤◌, Bool, true, false, cond, not, List, [], ◌∷◌, ◌++◌, map, length, refl, sym, subst, ◌∙◌, arith}
use Rattle.std.specs.Prelude.{slice_get, Some}
use Rattle.std.proofs.lemmas.Bool.Decides.{eqb_tells}
use Rattle.std.specs.List.{filter}
use Rattle.mv_eval.specs.declared.state.Env.{Env}
use Rattle.mv_eval.specs.declared.state.Content.{Content}
use Rattle.mv_eval.specs.declared.state.Content.TheVariants.{Scalar}
use Rattle.mv_eval.specs.declared.state.State.{State}
use Rattle.mv_eval.specs.Env.{held_at, scalar_at, with_held}
use Rattle.mv_catalog.specs.declared.resolved.RStmt.TheOpen.{Assign, Select, Total, ForSelect, ForRows, Branch, Insert, Update, Delete, Print, Rollback}
use Rattle.mv_record.specs.declared.record.Slot.{Slot}
use Rattle.mv_recorded.specs.Doing.{is_found, when, set_variables, sets_of}
use Rattle.mv_recorded.specs.Effect.{with_slots}
use Rattle.mv_recorded.specs.Reading.{each_once}
use Rattle.mv_recorded.specs.Own.{Each, Bare, targets}
use Rattle.mv_recorded.proofs.Slots.{get_same, get_other}

-- the same variable is set in both
pub held_alike : (e f : Env) (y : ℕ) (h : Content) (x : ℕ) → held_at e x ≡ held_at f x → held_at (with_held e y h) x ≡ held_at (with_held f y h) x
held_alike e f y h x same = by_test (y == x) refl
  where
    by_test : (b : Bool) → (y == x) ≡ b → held_at (with_held e y h) x ≡ held_at (with_held f y h) x
    by_test true is =
        let at : y ≡ x = grind (arith, eqb_tells) in
        subst (λ z. held_at (with_held e z h) x ≡ held_at (with_held f z h) x) (sym at) (get_same e.held x h ∙ sym (get_same f.held x h))
    by_test false is =
        let apart : y ≡ x → ⊥ = λ at. grind (arith, eqb_tells) in
        get_other e.held y x h apart ∙ (same ∙ sym (get_other f.held y x h apart))

pub slots_alike : (ss : List Slot) (e f : Env) (x : ℕ) → held_at e x ≡ held_at f x → held_at (with_slots ss e) x ≡ held_at (with_slots ss f) x
slots_alike [] e f x same = same
slots_alike (s ∷ ss) e f x same =
    slots_alike ss (with_held e s.slot (Scalar s.value)) (with_held f s.slot (Scalar s.value)) x (held_alike e f s.slot (Scalar s.value) x same)

pub slots_both : (ss ts : List Slot) (e : Env) → with_slots (ss ++ ts) e ≡ with_slots ts (with_slots ss e)
slots_both [] ts e = refl
slots_both (s ∷ ss) ts e = slots_both ss ts (with_held e s.slot (Scalar s.value))

pub slots_found : (ss : List Slot) (e : Env) → (with_slots ss e).found ≡ e.found
slots_found [] e = refl
slots_found (s ∷ ss) e = slots_found ss (with_held e s.slot (Scalar s.value))

-- the slots are variables of the procedure's own
abbrev pub OwnSlots : ℕ → ℕ → List Slot → Type 0
OwnSlots params base ss = Each (λ (s : Slot). (params ≤ s.slot) × (s.slot < base)) ss

-- what has a greater number stays
pub slots_high : (params base : ℕ) (ss : List Slot) (e : Env) (x : ℕ) → OwnSlots params base ss → base ≤ x → held_at (with_slots ss e) x ≡ held_at e x
slots_high params base [] e x all le = refl
slots_high params base (s ∷ ss) e x all le =
    slots_high params base ss (with_held e s.slot (Scalar s.value)) x all.1 le ∙ get_other e.held s.slot x (Scalar s.value) (λ same. omega (arith, same, le, all.0.1))

-- Which are set

abbrev Own : ℕ → ℕ → List ℕ → Type 0
Own params base xs = Each (λ x. (params ≤ x) × (x < base)) xs

own_filter : (params base : ℕ) (p : ℕ → Bool) (xs : List ℕ) → Own params base xs → Own params base (filter p xs)
own_filter params base p [] h = tt
own_filter params base p (x ∷ xs) h = by_test (p x) (own_filter params base p xs h.1)
  where
    by_test : (b : Bool) → Own params base (filter p xs) → Own params base (cond b (x ∷ filter p xs) (filter p xs))
    by_test true k = (h.0, k)
    by_test false k = k

own_once : (params base : ℕ) (xs : List ℕ) → Own params base xs → Own params base (each_once xs)
own_once params base [] h = tt
own_once params base (x ∷ xs) h = (h.0, own_filter params base (λ m. not (m == x)) (each_once xs) (own_once params base xs h.1))

own_when : (params base : ℕ) (b : Bool) (xs : List ℕ) → Own params base xs → Own params base (when b xs)
own_when params base true xs h = h
own_when params base false xs h = tt

own_both : (params base : ℕ) (xs ys : List ℕ) → Own params base xs → Own params base ys → Own params base (xs ++ ys)
own_both params base [] ys h k = k
own_both params base (x ∷ xs) ys h k = (h.0, own_both params base xs ys h.1 k)

own_set : (params base : ℕ) (y : Bare) (st : State) → Own params base (targets y) → (params ≤ st.env.found) × (st.env.found < base) → Own params base (set_variables y st)
own_set params base (Assign x e) st h f = h
own_set params base (Select cs xs t conds sorts offset) st h f =
    own_both params base (when (is_found st) (each_once xs)) (st.env.found ∷ []) (own_when params base (is_found st) (each_once xs) (own_once params base xs h)) (f, tt)
own_set params base (Total agg x t conds) st h f =
    own_both params base (when _ (x ∷ [])) (st.env.found ∷ []) (own_when params base _ (x ∷ []) h) (f, tt)
own_set params base (ForSelect x once cs t conds sorts body) st h f = (f, tt)
own_set params base (ForRows x y body) st h f = (f, tt)
own_set params base (Branch e ys ns) st h f = tt
own_set params base (Insert t es) st h f = (f, tt)
own_set params base (Update t items conds) st h f = (f, tt)
own_set params base (Delete t conds) st h f = (f, tt)
own_set params base (Print es) st h f = tt
own_set params base (Rollback reason) st h f = tt

slots_of : (params base : ℕ) (st : State) (xs : List ℕ) → Own params base xs → OwnSlots params base (map (λ x. record { slot = x; value = scalar_at st.env x }) xs)
slots_of params base st [] h = tt
slots_of params base st (x ∷ xs) h = (h.0, slots_of params base st xs h.1)

pub own_slots : (params base : ℕ) (y : Bare) (st : State) → Own params base (targets y) → (params ≤ st.env.found) × (st.env.found < base) → OwnSlots params base (sets_of y st)
own_slots params base y st h f = slots_of params base st (set_variables y st) (own_set params base y st h f)

-- Lists

pub get_front : {A : Type 0} (xs ys : List A) (n : ℕ) → n < length xs → slice_get (xs ++ ys) n ≡ slice_get xs n
get_front [] ys n lt = absurd (omega (arith, lt))
get_front (x ∷ xs) ys zero lt = refl
get_front (x ∷ xs) ys (suc n) lt = get_front xs ys n (omega (arith, lt))

pub get_last : {A : Type 0} (xs : List A) (x : A) (ys : List A) → slice_get (xs ++ x ∷ ys) (length xs) ≡ Some x
get_last [] x ys = refl
get_last (z ∷ xs) x ys = get_last xs x ys
