-- Expressions give values of their types.
use Rattle.std.proofs.Common.{◌≡◌, ℤ, pos, ◌^◌, ◌-◌, negsuc, int_le, int_lt, Bool, true, false, ◌&&◌, List, Option, Some, None, Result, Ok, Err, refl, sym, ap, subst, ◌∙◌, if◌then◌else◌, IfOk}
use Rattle.std.specs.Prelude.{ℕ, ◌+ℤ◌, ◌-ℤ◌, ◌*ℤ◌, neg_ℤ, ◌++◌, int_div, int_rem, nat_le, length}
use Rattle.std.specs.Ordering.{int_eq}
use Rattle.mv_values.specs.declared.value.Value.{Value}
use Rattle.mv_values.specs.declared.value.Value.TheVariants.{Int, Text}
use Rattle.mv_values.specs.declared.calls.End.{End}
use Rattle.mv_values.specs.Columns.{column_of, number}
use Rattle.mv_values.specs.declared.calls.End.TheVariants.{Overflow, ZeroDivisor, TooLong}
use Rattle.mv_ast.specs.declared.tree.OneOp.{OneOp}
use Rattle.mv_ast.specs.declared.tree.OneOp.TheVariants.{Neg, Not, TextOf}
use Rattle.mv_ast.specs.declared.tree.TwoOp.{TwoOp}
use Rattle.mv_ast.specs.declared.tree.TwoOp.TheVariants.{Add, Sub, Mul, Div, Rem, Join, Compare, And, Or, Left, Contains}
use Rattle.mv_catalog.specs.declared.resolved.RExpr.{RExpr, fold-roll-RExpr, rolls-RExpr'}
use Rattle.mv_catalog.specs.declared.resolved.RExprKind.{RExprKind, out-RExprKind, roll-out-RExprKind}
use Rattle.mv_catalog.specs.declared.resolved.RExprKind.TheFolds.{fold-RExprKind, fold-roll-RExprKind, map-RExprKind}
use Rattle.mv_catalog.specs.declared.resolved.RExprKind.TheViews.{roll-RExprKind}
use Rattle.mv_catalog.specs.declared.resolved.RExprKind.TheOpen.{RExprKind-F}
use Rattle.mv_catalog.specs.declared.resolved.RExprKind.TheOpen as open'
use Rattle.mv_catalog.specs.Types.{Kind, int, text, Var, fixed, declared, rows, turn, Vars, kind_of_value, HasType, read, field, one_gives, two_gives}
use Rattle.mv_catalog.specs.Types as types
use Rattle.mv_catalog.proofs.Typed.{typed_by, HasKind}
use Rattle.mv_eval.specs.declared.state.Env.{Env}
use Rattle.mv_eval.specs.declared.state.Content.{Content}
use Rattle.mv_eval.specs.Results.{then_do}
use Rattle.mv_eval.specs.Env.{held_at, scalar_in, turn_in, truth}
use Rattle.mv_eval.specs.Value as value
use Rattle.mv_eval.specs.Value.{value_of, is_so, Evaluation, kind_step, expr_step, fitted, quotient, remainder, joined, one_of, both_of, two_of, needs_right}
use Rattle.mv_recorded.specs.Typed.{OfKinds, Holds, IsEnvOf}

abbrev pub IsKind : Kind → Value → Type 0
IsKind k v = kind_of_value v ≡ k

-- What operators give

pub fitted_kind : (z : ℤ) → IfOk (fitted z) (IsKind int)
fitted_kind z = by (int_le (negsuc (2 ^ 63 - 1)) z && int_lt z (pos (2 ^ 63)))
  where
    by : (b : Bool) → IfOk {E = End} (if b then Ok (Int z) else Err Overflow) (IsKind int)
    by true = refl
    by false = tt

quotient_kind : (a b : ℤ) → IfOk (quotient a b) (IsKind int)
quotient_kind a b = by (int_eq b (pos 0))
  where
    by : (c : Bool) → IfOk (if c then Err ZeroDivisor else fitted (int_div a b)) (IsKind int)
    by true = tt
    by false = fitted_kind (int_div a b)

remainder_kind : (a b : ℤ) → IfOk (remainder a b) (IsKind int)
remainder_kind a b = by (int_eq b (pos 0))
  where
    by : (c : Bool) → IfOk {E = End} (if c then Err ZeroDivisor else Ok (Int (int_rem a b))) (IsKind int)
    by true = tt
    by false = refl

joined_kind : (t : List ℕ) → IfOk (joined t) (IsKind text)
joined_kind t = by (nat_le (length t) 4000)
  where
    by : (b : Bool) → IfOk {E = End} (if b then Ok (Text t) else Err TooLong) (IsKind text)
    by true = refl
    by false = tt

as_kind : (k t : Kind) (r : Result Value End) → Some k ≡ Some t → IfOk r (IsKind k) → IfOk r (IsKind t)
as_kind k t r h is = let same : k ≡ t = cc in subst (λ u. IfOk r (IsKind u)) same is

one_kind : (op : OneOp) (s t : Kind) (v : Value) → one_gives op s ≡ Some t → IfOk (one_of op v) (IsKind t)
one_kind Neg int t v h = as_kind int t (one_of Neg v) h (fitted_kind (neg_ℤ (number v)))
one_kind Not int t v h = as_kind int t (one_of Not v) h refl
one_kind TextOf int t v h = as_kind text t (one_of TextOf v) h refl
one_kind op text t v h = cc

both_kind : (op : TwoOp) (l r t : Kind) (v w : Value) → two_gives op l r ≡ Some t → IfOk (both_of op v w) (IsKind t)
both_kind Add int int t v w h = as_kind int t (both_of Add v w) h (fitted_kind (number v +ℤ number w))
both_kind Sub int int t v w h = as_kind int t (both_of Sub v w) h (fitted_kind (number v -ℤ number w))
both_kind Mul int int t v w h = as_kind int t (both_of Mul v w) h (fitted_kind (number v *ℤ number w))
both_kind Div int int t v w h = as_kind int t (both_of Div v w) h (quotient_kind (number v) (number w))
both_kind Rem int int t v w h = as_kind int t (both_of Rem v w) h (remainder_kind (number v) (number w))
both_kind Join text text t v w h = as_kind text t (both_of Join v w) h (joined_kind (value.text v ++ value.text w))
both_kind (Compare op) int int t v w h = as_kind int t (both_of (Compare op) v w) h refl
both_kind (Compare op) text text t v w h = as_kind int t (both_of (Compare op) v w) h refl
both_kind And int int t v w h = as_kind int t (both_of And v w) h refl
both_kind Or int int t v w h = as_kind int t (both_of Or v w) h refl
both_kind Left text int t v w h = as_kind text t (both_of Left v w) h refl
both_kind Contains text text t v w h = as_kind int t (both_of Contains v w) h refl
both_kind op l r t v w h = cc

-- the left side is the answer of AND and OR alone
left_kind : (op : TwoOp) (l r t : Kind) (v : Value) → two_gives op l r ≡ Some t → needs_right op v ≡ false → int ≡ t
left_kind And int int t v h e = cc
left_kind Or int int t v h e = cc
left_kind op l r t v h e = cc

two_kind : (op : TwoOp) (l r t : Kind) (a b : Result Value End) → two_gives op l r ≡ Some t → IfOk (two_of op a b) (IsKind t)
two_kind op l r t (Err e) b h = tt
two_kind op l r t (Ok v) b h = by (needs_right op v) refl b
  where
    by : (c : Bool) → needs_right op v ≡ c → (b : Result Value End) → IfOk (if c then then_do b (λ w. both_of op v w) else Ok (truth (is_so v))) (IsKind t)
    by true e (Ok w) = both_kind op l r t v w h
    by true e (Err f) = tt
    by false e b = left_kind op l r t v h e

-- The value of an expression

scalar_kind : (o : Option Var) (h : Content) (t : Kind) → ((v : Var) → o ≡ Some v → Holds v h) → read o ≡ Some t → IsKind t (scalar_in h)
scalar_kind (Some (fixed k)) h t holds is = let same : k ≡ t = cc in subst (λ u. IsKind u (scalar_in h)) same (holds (fixed k) refl)
scalar_kind (Some (declared k)) h t holds is = let same : k ≡ t = cc in subst (λ u. IsKind u (scalar_in h)) same (holds (declared k) refl)
scalar_kind (Some (rows ks)) h t holds is = cc
scalar_kind (Some (turn ks)) h t holds is = cc
scalar_kind None h t holds is = cc

field_kind : (o : Option Var) (h : Content) (c : ℕ) (t : Kind) → ((v : Var) → o ≡ Some v → Holds v h) → field o c ≡ Some t → IsKind t (column_of (turn_in h) c)
field_kind (Some (turn ks)) h c t holds is = holds (turn ks) refl c t is
field_kind (Some (rows ks)) h c t holds is = cc
field_kind (Some (fixed k)) h c t holds is = cc
field_kind (Some (declared k)) h c t holds is = cc
field_kind None h c t holds is = cc

kind_value : RExprKind → Evaluation
kind_value = fold-RExprKind Evaluation Evaluation kind_step expr_step

value_is : (d : RExprKind-F RExprKind RExpr) (env : Env) (row : List Value)
    → value_of (record { kind = roll-RExprKind d }) env row ≡ kind_step (map-RExprKind RExprKind RExpr Evaluation Evaluation kind_value value_of d) env row
unfolding kind_value
value_is d env row =
    ap (λ e. value_of e env row) (sym (rolls-RExpr' (record { kind = roll-RExprKind d })))
    ∙ (ap (λ f. f env row) (fold-roll-RExpr Evaluation Evaluation kind_step expr_step (record { kind = roll-RExprKind d }))
    ∙ ap (λ f. f env row) (fold-roll-RExprKind Evaluation Evaluation kind_step expr_step d))

module _ (vars : Vars) (columns : List Kind) (env : Env) (row : List Value) (fit : IsEnvOf vars env) (typed : OfKinds columns row) where
  step_kind : (d : RExprKind-F RExprKind RExpr) (t : Kind)
      → types.kind_step vars columns RExprKind RExpr (λ y. y) (λ y. y) (HasKind vars columns) (HasType vars columns) d t
      → IfOk (kind_step (map-RExprKind RExprKind RExpr Evaluation Evaluation kind_value value_of d) env row) (IsKind t)
  step_kind (open'.Const v) t h = h
  step_kind (open'.Var x) t h = scalar_kind (vars x) (held_at env x) t (fit.holds x) h
  step_kind (open'.Field x c) t h = field_kind (vars x) (held_at env x) c t (fit.holds x) h
  step_kind (open'.Col c) t h = typed c t h
  step_kind (open'.One op a) t h = by (value_of a env row)
    where
      by : (r : Result Value End) → IfOk (then_do r (λ v. one_of op v)) (IsKind t)
      by (Ok v) = one_kind op h.0 t v h.2
      by (Err e) = tt
  step_kind (open'.Two op a b) t h = two_kind op h.0 h.1 t (value_of a env row) (value_of b env row) h.4

  -- a value of the expression's type, unless it has a fault
  pub value_kind : (e : RExpr) (t : Kind) → HasType vars columns e t → IfOk (value_of e env row) (IsKind t)
  value_kind e t h =
      let d = out-RExprKind e.kind in
      let is : roll-RExprKind d ≡ e.kind = roll-out-RExprKind e.kind in
      subst (λ k. IfOk (value_of (record { kind = k }) env row) (IsKind t)) is
      (subst (λ r. IfOk r (IsKind t)) (sym (value_is d env row)) (step_kind d t (typed_by vars columns d e.kind t is h)))
