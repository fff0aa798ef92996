-- What variables hold behind others that were set.
use Rattle.std.proofs.Common.{◌≡◌, ◌≤◌, ℕ, zero, suc, ◌==◌, Bool, true, false, List, [], ◌∷◌, ◌++◌, Option, Some, None, length, drop, refl, sym, ap, subst, ◌∙◌, arith, if◌then◌else◌}
use Rattle.std.proofs.lemmas.Bool.Decides.{eqb_tells}
use Rattle.mv_values.specs.declared.value.Value.{Value}
use Rattle.mv_values.specs.Columns.{column_of, columns_of}
use Rattle.mv_eval.specs.declared.state.Env.{Env}
use Rattle.mv_eval.specs.declared.state.Content.TheVariants.{Scalar}
use Rattle.mv_eval.specs.Env.{scalar_in, scalar_at, truth, with_value, with_values, with_found}
use Rattle.mv_recorded.proofs.Slots.{set_has, found_has, get_other}
use Rattle.mv_effect.specs.Targets.{last_column}
use Rattle.mv_recorded.specs.Effects.{slots_behind}

-- a variable behind the setting of one
pub scalar_behind : (env : Env) (y x : ℕ) (v : Value) → scalar_at (with_value env y v) x ≡ (if y == x then v else scalar_at env x)
scalar_behind env y x v = by (y == x) refl
  where
    by : (b : Bool) → (y == x) ≡ b → scalar_at (with_value env y v) x ≡ (if b then v else scalar_at env x)
    by true h = let same : y ≡ x = grind (arith, eqb_tells) in subst (λ z. scalar_at (with_value env y v) z ≡ v) same (set_has env y v)
    by false h = let apart : y ≡ x → ⊥ = λ same. grind (arith, eqb_tells) in ap scalar_in (get_other env.held y x (Scalar v) apart)

-- the value of a variable behind `:found`
pub before_found : (env : Env) (b : Bool) (x : ℕ) → scalar_at (with_found env b) x ≡ (if x == env.found then truth b else scalar_at env x)
before_found env b x = scalar_behind env env.found x (truth b) ∙ ap (λ c. if c then truth b else scalar_at env x) (turned (x == env.found) refl)
  where
    turned : (c : Bool) → (x == env.found) ≡ c → (env.found == x) ≡ c
    turned true h = grind (arith, eqb_tells)
    turned false h = grind (arith, eqb_tells)

-- the value of a column that a target takes, or what the variable held
abbrev pub value_by : List Value → Option ℕ → Value → Value
value_by row None v = v
value_by row (Some c) v = column_of row c

-- a target has the column that it takes last, another variable what it held
pub taken_value : (env : Env) (xs cs : List ℕ) (row : List Value) (x : ℕ) (last : Option ℕ) (v : Value) → scalar_at env x ≡ value_by row last v
    → scalar_at (with_values env xs (columns_of row cs)) x ≡ value_by row (last_column xs cs x last) v
taken_value env [] cs row x last v h = h
taken_value env (y ∷ ys) [] row x last v h = h
taken_value env (y ∷ ys) (c ∷ cs) row x last v h =
    taken_value (with_value env y (column_of row c)) ys cs row x (if y == x then Some c else last) v
    (scalar_behind env y x (column_of row c) ∙ by (y == x))
  where
    by : (b : Bool) → (if b then column_of row c else scalar_at env x) ≡ value_by row (if b then Some c else last) v
    by true = refl
    by false = h

-- where no columns are left, no target takes one
pub last_ends : (xs cs : List ℕ) (x : ℕ) (last : Option ℕ) (i : ℕ) → length cs ≤ i → last_column xs (drop i cs) x last ≡ last
last_ends xs [] x last zero h = none xs
  where
    none : (ys : List ℕ) → last_column ys [] x last ≡ last
    none [] = refl
    none (y ∷ ys) = refl
last_ends xs [] x last (suc i) h = none xs
  where
    none : (ys : List ℕ) → last_column ys [] x last ≡ last
    none [] = refl
    none (y ∷ ys) = refl
last_ends xs (c ∷ cs) x last zero h = absurd (omega (arith, h))
last_ends xs (c ∷ cs) x last (suc i) h = last_ends xs cs x last i (omega (arith, h))

-- what an aggregate sets where it gives something
pub total_set : (env : Env) (b : Bool) (x : ℕ) (v : Value)
    → slots_behind (with_found (with_value env x v) b) (x ∷ env.found ∷ []) ≡ record { slot = x; value = if x == env.found then truth b else v } ∷ record { slot = env.found; value = truth b } ∷ []
total_set env b x v =
    ap (λ w. record { slot = x; value = w } ∷ record { slot = env.found; value = scalar_at (with_found (with_value env x v) b) env.found } ∷ []) (before_found (with_value env x v) b x ∙ ap (λ w. if x == env.found then truth b else w) (set_has env x v))
    ∙ ap (λ w. record { slot = x; value = if x == env.found then truth b else v } ∷ record { slot = env.found; value = w } ∷ []) (found_has (with_value env x v) b)

-- the variables of two lists, one behind the other
slots_both : (env : Env) (xs ys : List ℕ) → slots_behind env (xs ++ ys) ≡ slots_behind env xs ++ slots_behind env ys
slots_both env [] ys = refl
slots_both env (x ∷ xs) ys = ap (λ l. record { slot = x; value = scalar_at env x } ∷ l) (slots_both env xs ys)

-- one variable more
pub slots_more : (env : Env) (b : Bool) (xs ys : List ℕ) (x : ℕ) (v : Value) (found : ℕ) → found ≡ env.found → xs ++ x ∷ [] ≡ ys → v ≡ scalar_at env x
    → slots_behind (with_found env b) xs ++ record { slot = x; value = if x == found then truth b else v } ∷ [] ≡ slots_behind (with_found env b) ys
slots_more env b xs ys x v found at same is =
    ap (λ f. slots_behind (with_found env b) xs ++ record { slot = x; value = if x == f then truth b else v } ∷ []) at ∙
    (ap (λ w. slots_behind (with_found env b) xs ++ record { slot = x; value = w } ∷ []) (ap (λ w. if x == env.found then truth b else w) is ∙ sym (before_found env b x))
    ∙ (sym (slots_both (with_found env b) xs (x ∷ [])) ∙ ap (slots_behind (with_found env b)) same))

-- `:found`, as the last one
pub slots_end : (env : Env) (b : Bool) (xs : List ℕ) (x : ℕ) → x ≡ env.found
    → slots_behind (with_found env b) xs ++ record { slot = x; value = truth b } ∷ [] ≡ slots_behind (with_found env b) (xs ++ x ∷ [])
slots_end env b xs x same =
    ap (λ w. slots_behind (with_found env b) xs ++ record { slot = x; value = w } ∷ []) (sym (subst (λ y. scalar_at (with_found env b) y ≡ truth b) (sym same) (found_has env b)))
    ∙ sym (slots_both (with_found env b) xs (x ∷ []))
