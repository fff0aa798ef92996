-- The rules of types, at each kind of expression and of statement.
use Rattle.std.proofs.Common.{◌≡◌, List, [], ◌∷◌, refl, sym, ap, ap₂, subst, map}
use mathlib.Core.Path.{fun_ext}
use Rattle.mv_values.specs.declared.schema.TableInfo.{TableInfo}
use Rattle.mv_catalog.specs.declared.resolved.RExpr.{RExpr, RExpr-F, rec-roll-RExpr, roll-RExpr, map-RExpr, rolls-RExpr'}
use Rattle.mv_catalog.specs.declared.resolved.RExprKind.{RExprKind}
use Rattle.mv_catalog.specs.declared.resolved.RExprKind.TheFolds.{rec-RExprKind, rec-roll-RExprKind, map-RExprKind}
use Rattle.mv_catalog.specs.declared.resolved.RExprKind.TheViews.{roll-RExprKind}
use Rattle.mv_catalog.specs.declared.resolved.RExprKind.TheOpen.{RExprKind-F}
use Rattle.mv_catalog.specs.declared.resolved.RExprKind.TheOpen as open'
use Rattle.mv_catalog.specs.declared.resolved.RStmt.{RStmt}
use Rattle.mv_catalog.specs.declared.resolved.RStmt.TheOpen as stmt
use Rattle.mv_catalog.specs.declared.resolved.RStmt.TheViews.{roll-RStmt}
use Rattle.mv_catalog.specs.declared.resolved.RStmt.TheFolds.{rec-roll-RStmt, map-RStmt}
use Rattle.mv_catalog.specs.Types.{Kind, Vars, Has, kind_step, expr_step, HasType}
use Rattle.mv_catalog.specs.Statements.{Well, all_well, stmt_step, IsWell, for_select, for_rows, branch}

-- types that are the same have the same values
pub along : {A B : Type 0} → A ≡ B → A → B
along e = subst (λ T. T) e

abbrev pub HasKind : Vars → List Kind → RExprKind → Kind → Type 0
HasKind vars columns = rec-RExprKind Has Has (kind_step vars columns) expr_step

kind_natural : (vars : Vars) (columns : List Kind) (X Y : Type 0) (v : X → RExprKind) (w : Y → RExpr) (k : RExprKind → Has) (has : RExpr → Has) (x : RExprKind-F X Y)
    → kind_step vars columns X Y v w (λ p. k (v p)) (λ p. has (w p)) x ≡ kind_step vars columns RExprKind RExpr (λ y. y) (λ y. y) k has (map-RExprKind X Y RExprKind RExpr v w x)
kind_natural vars columns X Y v w k has (open'.Const c) = refl
kind_natural vars columns X Y v w k has (open'.Var c) = refl
kind_natural vars columns X Y v w k has (open'.Field x c) = refl
kind_natural vars columns X Y v w k has (open'.Col c) = refl
kind_natural vars columns X Y v w k has (open'.One op a) = refl
kind_natural vars columns X Y v w k has (open'.Two op a b) = refl

expr_natural : (X Y : Type 0) (v : X → RExprKind) (w : Y → RExpr) (k : RExprKind → Has) (has : RExpr → Has) (x : RExpr-F X Y)
    → expr_step X Y v w (λ p. k (v p)) (λ p. has (w p)) x ≡ expr_step RExprKind RExpr (λ y. y) (λ y. y) k has (map-RExpr X Y RExprKind RExpr v w x)
expr_natural X Y v w k has x = refl

kind_is : (vars : Vars) (columns : List Kind) (d : RExprKind-F RExprKind RExpr)
    → HasKind vars columns (roll-RExprKind d) ≡ kind_step vars columns RExprKind RExpr (λ y. y) (λ y. y) (HasKind vars columns) (HasType vars columns) d
kind_is vars columns d = rec-roll-RExprKind Has Has (kind_step vars columns) expr_step (kind_natural vars columns) d

expr_is : (vars : Vars) (columns : List Kind) (d : RExpr-F RExprKind RExpr)
    → HasType vars columns (roll-RExpr d) ≡ expr_step RExprKind RExpr (λ y. y) (λ y. y) (HasKind vars columns) (HasType vars columns) d
expr_is vars columns d = rec-roll-RExpr Has Has (kind_step vars columns) expr_step expr_natural d

-- a type that the rules give
pub typed : (vars : Vars) (columns : List Kind) (d : RExprKind-F RExprKind RExpr) (k : RExprKind) (t : Kind) → roll-RExprKind d ≡ k
    → kind_step vars columns RExprKind RExpr (λ y. y) (λ y. y) (HasKind vars columns) (HasType vars columns) d t → HasType vars columns (record { kind = k }) t
typed vars columns d k t e h =
    let inner : HasKind vars columns k t = subst (λ q. HasKind vars columns q t) e (along (sym (ap (λ f. f t) (kind_is vars columns d))) h) in
    subst (λ r. HasType vars columns r t) (rolls-RExpr' (record { kind = k })) (along (sym (ap (λ f. f t) (expr_is vars columns (record { kind = k })))) inner)

all_mapped : (X : Type 0) (v : X → RStmt) (k : RStmt → Well) (ss : List X) (vars : Vars) → all_well (λ p. k (v p)) ss vars ≡ all_well k (map v ss) vars
all_mapped X v k [] vars = refl
all_mapped X v k (s ∷ ss) vars = ap (λ T. k (v s) vars × T) (all_mapped X v k ss vars)

all_same : (X : Type 0) (v : X → RStmt) (k : RStmt → Well) (ss : List X) → all_well (λ p. k (v p)) ss ≡ all_well k (map v ss)
all_same X v k ss = fun_ext (all_mapped X v k ss)

stmt_natural : (tables : List TableInfo) (X : Type 0) (v : X → RStmt) (k : RStmt → Well) (x : stmt.RStmt-F X)
    → stmt_step tables X v (λ p. k (v p)) x ≡ stmt_step tables RStmt (λ y. y) k (map-RStmt X RStmt v x)
stmt_natural tables X v k (stmt.Assign to right) = refl
stmt_natural tables X v k (stmt.Select columns to table conds sorts offset) = refl
stmt_natural tables X v k (stmt.Total agg to table conds) = refl
stmt_natural tables X v k (stmt.ForSelect row distinct columns table conds sorts body) = ap (for_select tables row columns table conds sorts) (all_same X v k body)
stmt_natural tables X v k (stmt.ForRows row over body) = ap (for_rows row over) (all_same X v k body)
stmt_natural tables X v k (stmt.Branch test ys ns) = ap₂ (branch test) (all_same X v k ys) (all_same X v k ns)
stmt_natural tables X v k (stmt.Insert table values) = refl
stmt_natural tables X v k (stmt.Update table items conds) = refl
stmt_natural tables X v k (stmt.Delete table conds) = refl
stmt_natural tables X v k (stmt.Print values) = refl
stmt_natural tables X v k (stmt.Rollback reason) = refl

stmt_is : (tables : List TableInfo) (d : stmt.RStmt-F RStmt) → IsWell tables (roll-RStmt d) ≡ stmt_step tables RStmt (λ y. y) (IsWell tables) d
stmt_is tables d = rec-roll-RStmt Well (stmt_step tables) (stmt_natural tables) d

-- a statement that the rules allow
pub well : (tables : List TableInfo) (d : stmt.RStmt-F RStmt) (s : RStmt) (vars : Vars) → roll-RStmt d ≡ s
    → stmt_step tables RStmt (λ y. y) (IsWell tables) d vars → IsWell tables s vars
well tables d s vars e h = subst (λ r. IsWell tables r vars) e (along (sym (ap (λ f. f vars) (stmt_is tables d))) h)

-- what the rules say of a type, and of a statement that they allow
pub typed_by : (vars : Vars) (columns : List Kind) (d : RExprKind-F RExprKind RExpr) (k : RExprKind) (t : Kind) → roll-RExprKind d ≡ k → HasType vars columns (record { kind = k }) t
    → kind_step vars columns RExprKind RExpr (λ y. y) (λ y. y) (HasKind vars columns) (HasType vars columns) d t
typed_by vars columns d k t e h =
    let rolled : HasType vars columns (roll-RExpr (record { kind = k })) t = subst (λ r. HasType vars columns r t) (sym (rolls-RExpr' (record { kind = k }))) h in
    along (ap (λ f. f t) (kind_is vars columns d)) (subst (λ q. HasKind vars columns q t) (sym e) (along (ap (λ f. f t) (expr_is vars columns (record { kind = k }))) rolled))

pub well_by : (tables : List TableInfo) (d : stmt.RStmt-F RStmt) (s : RStmt) (vars : Vars) → roll-RStmt d ≡ s → IsWell tables s vars → stmt_step tables RStmt (λ y. y) (IsWell tables) d vars
well_by tables d s vars e h = along (ap (λ f. f vars) (stmt_is tables d)) (subst (λ r. IsWell tables r vars) (sym e) h)
