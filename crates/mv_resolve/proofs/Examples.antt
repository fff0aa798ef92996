-- What the rules of types refuse, by examples.
use Rattle.std.proofs.Common.{◌≡◌, ◌≢◌, ℕ, pos, List, [], ◌∷◌, Some, None, sym, ap, subst, ◌∙◌, length, slice_get, arith, Contains}
use Rattle.std.proofs.lemmas.List.{length-map}
use Rattle.std.proofs.lemmas.Slice.Zip.{AllZip-long}
use Rattle.std.proofs.lemmas.Option.{none-some}
use Rattle.mv_values.specs.declared.schema.TableInfo.{TableInfo}
use Rattle.mv_values.specs.declared.value.Value.TheVariants as value
use Rattle.mv_ast.specs.declared.tree.TwoOp.TheVariants.{Add}
use Rattle.mv_catalog.specs.declared.resolved.RCond.{RCond}
use Rattle.mv_catalog.specs.declared.resolved.RSetItem.{RSetItem}
use Rattle.mv_catalog.specs.declared.resolved.RExpr.{RExpr}
use Rattle.mv_catalog.specs.declared.resolved.RExprKind.TheOpen as open'
use Rattle.mv_catalog.specs.declared.resolved.RExprKind.TheVariants.{Const, Field, Two, rolls-Const, rolls-Field, rolls-Two}
use Rattle.mv_catalog.specs.declared.resolved.RStmt.TheOpen as stmt
use Rattle.mv_catalog.specs.declared.resolved.RStmt.TheVariants.{Assign, Insert, Update, Delete, rolls-Assign, rolls-Insert, rolls-Update, rolls-Delete}
use Rattle.mv_catalog.specs.Types.{Kind, int, text, fixed, declared, Vars, HasType, field, two_gives}
use Rattle.mv_catalog.specs.Statements.{IsWell, IsOfKind, kinds_of}
use Rattle.mv_catalog.proofs.Typed.{typed_by, well_by}

abbrev pub one : RExpr
one = record { kind = Const (value.Int (pos 1)) }

abbrev pub nothing : RExpr
nothing = record { kind = Const (value.Text []) }

-- a number and a text have no sum
pub no_sum : (vars : Vars) (columns : List Kind) (t : Kind) → HasType vars columns (record { kind = Two Add one nothing }) t → ⊥
no_sum vars columns t h =
    let two = typed_by vars columns (open'.Two Add one nothing) (Two Add one nothing) t (rolls-Two Add one nothing) h in
    let l : int ≡ two.0 = typed_by vars columns (open'.Const (value.Int (pos 1))) (Const (value.Int (pos 1))) two.0 (rolls-Const (value.Int (pos 1))) two.2 in
    let r : text ≡ two.1 = typed_by vars columns (open'.Const (value.Text [])) (Const (value.Text [])) two.1 (rolls-Const (value.Text [])) two.3 in
    let gives : two_gives Add int text ≡ Some t = subst (λ k. two_gives Add int k ≡ Some t) (sym r) (subst (λ k. two_gives Add k two.1 ≡ Some t) (sym l) two.4) in
    cc

-- a loop's row isn't read outside the loop
pub no_row : (vars : Vars) (columns : List Kind) (x c : ℕ) (t : Kind) → vars x ≡ None → HasType vars columns (record { kind = Field x c }) t → ⊥
no_row vars columns x c t h k =
    let r : field (vars x) c ≡ Some t = typed_by vars columns (open'.Field x c) (Field x c) t (rolls-Field x c) k in
    let none : field (vars x) c ≡ None = ap (λ v. field v c) h in
    none-some t (sym none ∙ r)

-- a parameter isn't set
pub no_target : (tables : List TableInfo) (vars : Vars) (x : ℕ) (e : RExpr) (t : Kind) → vars x ≡ Some (fixed t) → IsWell tables (Assign x e) vars → ⊥
no_target tables vars x e t h k =
    let r = well_by tables (stmt.Assign x e) (Assign x e) vars (rolls-Assign x e) k in
    let same : Some (fixed t) ≡ Some (declared r.0) = sym h ∙ r.1 in
    cc

-- a table that isn't there isn't written
pub no_table : (tables : List TableInfo) (vars : Vars) (n : ℕ) (conds : List RCond) → slice_get tables n ≡ None → IsWell tables (Delete n conds) vars → ⊥
no_table tables vars n conds h k =
    let r = well_by tables (stmt.Delete n conds) (Delete n conds) vars (rolls-Delete n conds) k in
    none-some r.0 (sym h ∙ r.1)

-- a row of another length isn't inserted
pub no_row_of_another_length : (tables : List TableInfo) (t : TableInfo) (vars : Vars) (n : ℕ) (values : List RExpr) → slice_get tables n ≡ Some t → length values ≢ length t.columns
    → IsWell tables (Insert n values) vars → ⊥
no_row_of_another_length tables t vars n values is other k =
    let r = well_by tables (stmt.Insert n values) (Insert n values) vars (rolls-Insert n values) k in
    let same : r.0 ≡ t = (let e : Some r.0 ≡ Some t = sym r.1 ∙ is in cc) in
    let long : length values ≡ length (kinds_of r.0) = AllZip-long (IsOfKind vars) (kinds_of r.0) values r.2 in
    other (long ∙ ap (λ u. length (kinds_of u)) same ∙ length-map t.columns _)

-- a column of the key isn't set
pub no_key_set : (tables : List TableInfo) (t : TableInfo) (vars : Vars) (n : ℕ) (i : RSetItem) (conds : List RCond) → slice_get tables n ≡ Some t → Contains t.key i.column
    → IsWell tables (Update n (i ∷ []) conds) vars → ⊥
no_key_set tables t vars n i conds is of k =
    let r = well_by tables (stmt.Update n (i ∷ []) conds) (Update n (i ∷ []) conds) vars (rolls-Update n (i ∷ []) conds) k in
    let same : t ≡ r.0 = (let e : Some t ≡ Some r.0 = sym is ∙ r.1 in cc) in
    let item = r.2.0 0 i (omega arith) in
    item.2 (subst (λ u. Contains u.key i.column) same of)
