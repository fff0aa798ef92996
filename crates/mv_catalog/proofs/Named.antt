-- What an expression that has a type names.
use Rattle.std.proofs.Common.{◌≡◌, ℕ, List, refl, sym, subst}
use Rattle.mv_catalog.specs.declared.resolved.RExpr.{RExpr, RExpr-F, roll-RExpr, map-RExpr, fold-RExpr, fold-roll-RExpr, ind-RExpr, rolls-RExpr'}
use Rattle.mv_catalog.specs.declared.resolved.RExprKind.{RExprKind}
use Rattle.mv_catalog.specs.declared.resolved.RExprKind.TheFolds.{map-RExprKind, fold-RExprKind, fold-roll-RExprKind}
use Rattle.mv_catalog.specs.declared.resolved.RExprKind.TheViews.{roll-RExprKind}
use Rattle.mv_catalog.specs.declared.resolved.RExprKind.TheOpen.{RExprKind-F}
use Rattle.mv_catalog.specs.Types.{Kind, Vars, kind_step, HasType}
use Rattle.mv_catalog.proofs.Typed.{HasKind, typed_by}

-- `named` has the numbers that an expression names, given those of its parts
module _ (vars : Vars) (columns : List Kind) (named : RExprKind-F (List ℕ) (List ℕ) → List ℕ) (P : List ℕ → Type 0) where
  abbrev pub kind_names : RExprKind → List ℕ
  kind_names = fold-RExprKind (List ℕ) (List ℕ) named (λ e. e.kind)

  abbrev pub expr_names : RExpr → List ℕ
  expr_names = fold-RExpr (List ℕ) (List ℕ) named (λ e. e.kind)

  -- of a kind of expression that has a type, and of an expression
  abbrev pub KindClaim : RExprKind → Type 0
  KindClaim k = (t : Kind) → HasType vars columns (record { kind = k }) t → P (kind_names k)

  abbrev pub ExprClaim : RExpr → Type 0
  ExprClaim e = (t : Kind) → HasType vars columns e t → P (expr_names e)

  -- parts, with what is claimed of them
  abbrev pub Inner : Type 0
  Inner = (e : RExpr) × ExprClaim e

  abbrev pub InnerKind : Type 0
  InnerKind = (k : RExprKind) × KindClaim k

  -- a kind of expression, without what is claimed of its parts
  abbrev pub bare : RExprKind-F InnerKind Inner → RExprKind-F RExprKind RExpr
  bare y = map-RExprKind InnerKind Inner RExprKind RExpr (λ p. p.0) (λ p. p.0) y

  -- the claim at each kind of expression
  abbrev pub AtEachKind : Type 0
  AtEachKind = (y : RExprKind-F InnerKind Inner) (t : Kind) → kind_step vars columns RExprKind RExpr (λ z. z) (λ z. z) (HasKind vars columns) (HasType vars columns) (bare y) t
      → P (named (map-RExprKind RExprKind RExpr (List ℕ) (List ℕ) kind_names expr_names (bare y)))

  kind_rolled : AtEachKind → (x : RExprKind-F RExprKind RExpr) (y : RExprKind-F InnerKind Inner) → bare y ≡ x → KindClaim (roll-RExprKind x)
  kind_rolled at x y is =
      subst (λ z. KindClaim (roll-RExprKind z)) is (λ t h.
      subst P (sym (fold-roll-RExprKind (List ℕ) (List ℕ) named (λ e. e.kind) (bare y))) (at y t (typed_by vars columns (bare y) (roll-RExprKind (bare y)) t refl h)))

  expr_rolled : (x : RExpr-F RExprKind RExpr) (y : RExpr-F InnerKind Inner) → map-RExpr InnerKind Inner RExprKind RExpr (λ p. p.0) (λ p. p.0) y ≡ x → ExprClaim (roll-RExpr x)
  expr_rolled x y is =
      let d = map-RExpr InnerKind Inner RExprKind RExpr (λ p. p.0) (λ p. p.0) y in
      subst (λ z. ExprClaim (roll-RExpr z)) is (λ t h.
      subst P (sym (fold-roll-RExpr (List ℕ) (List ℕ) named (λ e. e.kind) d)) (y.kind.1 t (subst (λ r. HasType vars columns r t) (rolls-RExpr' d) h)))

  -- what is claimed at each kind holds of each expression that has a type
  pub named_by : AtEachKind → (e : RExpr) → ExprClaim e
  named_by at = ind-RExpr KindClaim ExprClaim (kind_rolled at) expr_rolled
