-- Variables that are set keep their types.
use Rattle.std.proofs.Common.{◌≡◌, ◌⊎◌, inl, inr, ℕ, Bool, true, false, List, Option, Some, None, refl, sym, subst, nat_eq, eqb-true, if◌then◌else◌}
use Rattle.std.proofs.lemmas.Bool.{eqb-false, cases_eq}
use Rattle.mv_values.specs.declared.value.Value.{Value}
use Rattle.mv_catalog.specs.Types.{Kind, int, Var, fixed, declared, turn, Vars, kind_of_value}
use Rattle.mv_catalog.specs.Statements.{with_turn}
use Rattle.mv_eval.specs.declared.state.Content.{Content}
use Rattle.mv_eval.specs.declared.state.Content.TheVariants.{Scalar, Turn}
use Rattle.mv_eval.specs.declared.state.Env.{Env}
use Rattle.mv_recorded.specs.Typed.{OfKinds, Holds, IsEnvOf}
use Rattle.mv_recorded.proofs.Slots.{get_same, get_other}
use Rattle.mv_eval.specs.Env.{held_at, with_held, with_value, with_found, truth}

same_var : (o : Option Var) (v w : Var) → o ≡ Some v → o ≡ Some w → v ≡ w
same_var o v w h k = cc

-- where a variable is set
set_holds : (env : Env) (x y : ℕ) (w : Var) (h : Content) → (y ≡ x → Holds w h) → Holds w (held_at env y) → Holds w (held_at (with_held env x h) y)
set_holds env x y w h here there = by (cases_eq y x)
  where
    by : (y ≡ x) ⊎ (y ≡ x → ⊥) → Holds w (held_at (with_held env x h) y)
    by (inl e) = subst (λ z. Holds w (held_at (with_held env x h) z)) (sym e) (subst (Holds w) (sym (get_same env.held x h)) (here e))
    by (inr other) = subst (Holds w) (sym (get_other env.held x y h (λ e. other (sym e)))) there

pub fit_set : (vars : Vars) (env : Env) (x : ℕ) (v : Var) (h : Content) → IsEnvOf vars env → vars x ≡ Some v → Holds v h → IsEnvOf vars (with_held env x h)
fit_set vars env x v h fit at holds = record {
  holds = λ y w is.
      set_holds env x y w h (λ e. subst (λ u. Holds u h) (same_var (vars x) v w at (subst (λ z. vars z ≡ Some w) e is)) holds) (fit.holds y w is);
  found = fit.found;
}

-- a declared variable takes a value of its type
pub fit_value : (vars : Vars) (env : Env) (x : ℕ) (k : Kind) (v : Value) → IsEnvOf vars env → vars x ≡ Some (declared k) → kind_of_value v ≡ k → IsEnvOf vars (with_value env x v)
fit_value vars env x k v fit at is = fit_set vars env x (declared k) (Scalar v) fit at is

pub fit_found : (vars : Vars) (env : Env) (b : Bool) → IsEnvOf vars env → IsEnvOf vars (with_found env b)
fit_found vars env b fit = fit_set vars env env.found (fixed int) (Scalar (truth b)) fit fit.found refl

-- The row of a loop

turn_other : (vars : Vars) (x y : ℕ) (ts : List Kind) (v : Var) (b : Bool) → nat_eq y x ≡ b → vars x ≡ None → vars y ≡ Some v → (if b then Some (turn ts) else vars y) ≡ Some v
turn_other vars x y ts v true e none at = let same : y ≡ x = eqb-true y x e in let gone : vars y ≡ None = subst (λ z. vars z ≡ None) (sym same) none in cc
turn_other vars x y ts v false e none at = at

-- what stands outside a loop is there inside
pub inside : (vars : Vars) (x y : ℕ) (ts : List Kind) (v : Var) → vars x ≡ None → vars y ≡ Some v → with_turn vars x ts y ≡ Some v
inside vars x y ts v none at = turn_other vars x y ts v (nat_eq y x) refl none at

held_here : (env : Env) (x y : ℕ) (ts : List Kind) (row : List Value) → y ≡ x → OfKinds ts row → Holds (turn ts) (held_at (with_held env x (Turn row)) y)
held_here env x y ts row e typed = subst (λ z. Holds (turn ts) (held_at (with_held env x (Turn row)) z)) (sym e) (subst (Holds (turn ts)) (sym (get_same env.held x (Turn row))) typed)

pub fit_turn : (vars : Vars) (env : Env) (x : ℕ) (ts : List Kind) (row : List Value) → IsEnvOf vars env → vars x ≡ None → OfKinds ts row → IsEnvOf (with_turn vars x ts) (with_held env x (Turn row))
fit_turn vars env x ts row fit none typed = record {
  holds = λ y w is. by y w (nat_eq y x) refl is;
  found = inside vars x env.found ts (fixed int) none fit.found;
}
  where
    by : (y : ℕ) (w : Var) (b : Bool) → nat_eq y x ≡ b → (if b then Some (turn ts) else vars y) ≡ Some w → Holds w (held_at (with_held env x (Turn row)) y)
    by y w true e is = let same : turn ts ≡ w = cc in subst (λ u. Holds u (held_at (with_held env x (Turn row)) y)) same (held_here env x y ts row (eqb-true y x e) typed)
    by y w false e is = set_holds env x y w (Turn row) (λ h. absurd (eqb-false y x e h)) (fit.holds y w is)

found_outside : (vars : Vars) (x y : ℕ) (ts : List Kind) (b : Bool) → nat_eq y x ≡ b → (if b then Some (turn ts) else vars y) ≡ Some (fixed int) → vars y ≡ Some (fixed int)
found_outside vars x y ts true e is = cc
found_outside vars x y ts false e is = is

-- what holds inside holds outside
pub fit_behind : (vars : Vars) (env : Env) (x : ℕ) (ts : List Kind) → IsEnvOf (with_turn vars x ts) env → vars x ≡ None → IsEnvOf vars env
fit_behind vars env x ts fit none = record {
  holds = λ y w is. fit.holds y w (inside vars x y ts w none is);
  found = found_outside vars x env.found ts (nat_eq env.found x) refl fit.found;
}
