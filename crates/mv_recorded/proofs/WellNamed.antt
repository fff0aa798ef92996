-- A statement that is well formed names tables and columns that are there.
use Rattle.std.proofs.Common.{◌≡◌, ◌<◌, ℕ, suc, List, [], ◌∷◌, Some, All, length, map, sym, ap, subst, ◌∙◌, arith}
use Rattle.std.specs.Prelude.{slice_get}
use Rattle.std.specs.List.{AllZip, flat_map}
use Rattle.std.proofs.lemmas.List.{length-map}
use Rattle.std.proofs.lemmas.List.Elements.{All-nil, All-cons, All-append, All-map, All-weaker}
use Rattle.std.proofs.lemmas.Option.{slice_get_within}
use Rattle.mv_values.specs.declared.schema.Column.{Column}
use Rattle.mv_values.specs.declared.schema.TableInfo.{TableInfo}
use Rattle.mv_values.specs.Tables.{columns_in, columns_at}
use Rattle.mv_catalog.specs.declared.resolved.RExpr.{RExpr}
use Rattle.mv_catalog.specs.declared.resolved.RExprKind.TheOpen as kind
use Rattle.mv_catalog.specs.declared.resolved.RCond.{RCond}
use Rattle.mv_catalog.specs.declared.resolved.RSort.{RSort}
use Rattle.mv_catalog.specs.declared.resolved.RSetItem.{RSetItem}
use Rattle.mv_catalog.specs.declared.resolved.RAgg.{RAgg}
use Rattle.mv_catalog.specs.declared.resolved.RAgg.TheVariants.{CountAll, CountDistinct, Sum, Min, Max}
use Rattle.mv_catalog.specs.declared.resolved.RStmt.{RStmt, out-RStmt, roll-out-RStmt}
use Rattle.mv_catalog.specs.declared.resolved.RStmt.TheOpen as stmt
use Rattle.mv_catalog.specs.Types.{Kind, int, Vars, kind_of_column, HasType}
use Rattle.mv_catalog.specs.Statements.{stmt_step, IsWell, kinds_of, Takes, IsTest, IsSort, IsItem, IsTotal}
use Rattle.mv_catalog.proofs.Typed.{well_by}
use Rattle.mv_catalog.proofs.Named.{named_by, AtEachKind}
use Rattle.mv_recorded.specs.Asking.{kind_columns, columns_in as columns_of_expr, column_in, with_sorts}
use Rattle.mv_recorded.specs.Naming.{NamesColumns, AreColumns, Tests, Sets}

-- Expressions

-- they are numbers of columns
abbrev WithinKinds : List Kind → List ℕ → Type 0
WithinKinds columns cs = All (λ c. c < length columns) cs

-- one column that is there
one_within : (columns : List Kind) (c : ℕ) → c < length columns → WithinKinds columns (c ∷ [])
one_within columns c lt = All-cons (λ c. c < length columns) c [] lt (All-nil (λ c. c < length columns))

-- the claim at each kind of expression
kind_claim : (vars : Vars) (columns : List Kind) → AtEachKind vars columns kind_columns (WithinKinds columns)
kind_claim vars columns (kind.Const v) t h = All-nil (λ c. c < length columns)
kind_claim vars columns (kind.Var x) t h = All-nil (λ c. c < length columns)
kind_claim vars columns (kind.Field x c) t h = All-nil (λ c. c < length columns)
kind_claim vars columns (kind.Col c) t h = one_within columns c (slice_get_within columns c t h)
kind_claim vars columns (kind.One op a) t h = a.1 h.0 h.1
kind_claim vars columns (kind.Two op a b) t h = All-append (λ c. c < length columns) (columns_of_expr a.0) (columns_of_expr b.0) (a.1 h.0 h.2) (b.1 h.1 h.3)

-- an expression that has a type names columns that are there
expr_within : (vars : Vars) (columns : List Kind) (e : RExpr) (t : Kind) → HasType vars columns e t → WithinKinds columns (columns_of_expr e)
expr_within vars columns = named_by vars columns kind_columns (WithinKinds columns) (kind_claim vars columns)

-- Statements

-- a column has one type
wide : (info : TableInfo) → length (kinds_of info) ≡ length info.columns
wide info = length-map info.columns (λ (c : Column). kind_of_column c.kind)

-- columns by the types of a table are columns of it
as_columns : {A : Type 0} (number : A → ℕ) (tables : List TableInfo) (t : ℕ) (info : TableInfo) (xs : List A) → slice_get tables t ≡ Some info → All (λ x. number x < length (kinds_of info)) xs
    → All (λ x. number x < length (columns_at tables t)) xs
as_columns number tables t info xs is h =
    subst (λ n. All (λ x. number x < n) xs) (wide info ∙ ap (λ o. length (columns_in o)) (sym is)) h

-- tests of WHERE test columns of the table
tests_of : (vars : Vars) (tables : List TableInfo) (t : ℕ) (info : TableInfo) (conds : List RCond) → slice_get tables t ≡ Some info → All (IsTest vars (kinds_of info)) conds → Tests tables t conds
tests_of vars tables t info conds is h = record {
  table = slice_get_within tables t info is;
  columns = as_columns (λ (c : RCond). c.column) tables t info conds is (All-weaker (IsTest vars (kinds_of info)) (λ (c : RCond). c.column < length (kinds_of info)) (λ c k. slice_get_within (kinds_of info) c.column k.0 k.1) conds h);
}

-- the selected columns and those of ORDER BY are columns of the table
sorted_of : (tables : List TableInfo) (t : ℕ) (info : TableInfo) (cs : List ℕ) (sorts : List RSort) → slice_get tables t ≡ Some info → WithinKinds (kinds_of info) cs → All (IsSort (kinds_of info)) sorts → AreColumns tables t (with_sorts cs sorts)
sorted_of tables t info cs sorts is h k =
    as_columns (λ c. c) tables t info (with_sorts cs sorts) is
    (All-append (λ c. c < length (kinds_of info)) cs (map (λ s. s.column) sorts) h (All-map (λ c. c < length (kinds_of info)) (λ (s : RSort). s.column) sorts k))

-- targets take columns that are there
taken_within : (vars : Vars) (columns : List Kind) (cs xs : List ℕ) → AllZip (Takes vars columns) cs xs → WithinKinds columns cs
taken_within vars columns [] [] h = All-nil (λ c. c < length columns)
taken_within vars columns [] (x ∷ xs) h = absurd h
taken_within vars columns (c ∷ cs) [] h = absurd h
taken_within vars columns (c ∷ cs) (x ∷ xs) h = All-cons (λ c. c < length columns) c cs (slice_get_within columns c h.0.0 h.0.1) (taken_within vars columns cs xs h.1)

-- columns that have types are there
kinds_within : (columns : List Kind) (cs : List ℕ) (ts : List Kind) → map (slice_get columns) cs ≡ map Some ts → WithinKinds columns cs
kinds_within columns [] ts h = All-nil (λ c. c < length columns)
kinds_within columns (c ∷ cs) [] h = cc
kinds_within columns (c ∷ cs) (t ∷ ts) h =
    let head : slice_get columns c ≡ Some t = cc in
    let tail : map (slice_get columns) cs ≡ map Some ts = cc in
    All-cons (λ c. c < length columns) c cs (slice_get_within columns c t head) (kinds_within columns cs ts tail)

-- the column of an aggregate that has a type is there
total_within : (columns : List Kind) (agg : RAgg) (k : Kind) → IsTotal columns agg k → WithinKinds columns (column_in agg)
total_within columns CountAll k h = All-nil (λ c. c < length columns)
total_within columns (CountDistinct c) k h = one_within columns c h.1
total_within columns (Sum c) k h = one_within columns c (slice_get_within columns c int h.1)
total_within columns (Min c) k h = one_within columns c (slice_get_within columns c k h)
total_within columns (Max c) k h = one_within columns c (slice_get_within columns c k h)

-- the right sides of SET name columns that are there
rights_within : (vars : Vars) (info : TableInfo) (items : List RSetItem) → All (IsItem vars info) items → WithinKinds (kinds_of info) (flat_map (λ i. columns_of_expr i.right) items)
rights_within vars info [] h = All-nil (λ c. c < length (kinds_of info))
rights_within vars info (i ∷ is) h =
    let first = h 0 i (omega arith) in
    All-append (λ c. c < length (kinds_of info)) (columns_of_expr i.right) (flat_map (λ i. columns_of_expr i.right) is) (expr_within vars (kinds_of info) i.right first.0 first.3)
    (rights_within vars info is (λ k d lt. h (suc k) d (omega (arith, lt))))

-- SET sets columns of the table, and its right sides name such
sets_of : (vars : Vars) (tables : List TableInfo) (t : ℕ) (info : TableInfo) (items : List RSetItem) → slice_get tables t ≡ Some info → All (IsItem vars info) items → Sets tables t items
sets_of vars tables t info items is h = record {
  columns = as_columns (λ (i : RSetItem). i.column) tables t info items is (All-weaker (IsItem vars info) (λ (i : RSetItem). i.column < length (kinds_of info)) (λ i k. slice_get_within (kinds_of info) i.column k.0 k.1) items h);
  rights = as_columns (λ c. c) tables t info (flat_map (λ i. columns_of_expr i.right) items) is (rights_within vars info items h);
}

-- the claim at each kind of statement
step_names : (tables : List TableInfo) (d : stmt.RStmt-F RStmt) (vars : Vars) → stmt_step tables RStmt (λ y. y) (IsWell tables) d vars → NamesColumns tables d
step_names tables (stmt.Assign to right) vars h = tt
step_names tables (stmt.Select cs xs t conds sorts offset) vars h =
    (tests_of vars tables t h.0.0 conds h.0.1 h.0.2.1, sorted_of tables t h.0.0 cs sorts h.0.1 (taken_within vars (kinds_of h.0.0) cs xs h.0.2.0) h.0.2.2)
step_names tables (stmt.Total agg x t conds) vars h =
    (tests_of vars tables t h.0 conds h.1 h.2.1, as_columns (λ c. c) tables t h.0 (column_in agg) h.1 (total_within (kinds_of h.0) agg h.2.0.0 h.2.0.1))
step_names tables (stmt.ForSelect row once cs t conds sorts body) vars h =
    (tests_of vars tables t h.0 conds h.1 h.2.0, sorted_of tables t h.0 cs sorts h.1 (kinds_within (kinds_of h.0) cs h.2.3.0 h.2.3.1) h.2.1)
step_names tables (stmt.ForRows row over body) vars h = tt
step_names tables (stmt.Branch test ys ns) vars h = tt
step_names tables (stmt.Insert t values) vars h = slice_get_within tables t h.0 h.1
step_names tables (stmt.Update t items conds) vars h = (tests_of vars tables t h.0 conds h.1 h.2.2, sets_of vars tables t h.0 items h.1 h.2.0)
step_names tables (stmt.Delete t conds) vars h = tests_of vars tables t h.0 conds h.1 h.2
step_names tables (stmt.Print values) vars h = tt
step_names tables (stmt.Rollback reason) vars h = tt

-- where a statement is well formed, its table is there, and it names columns of it
pub well_named : (tables : List TableInfo) (s : RStmt) (vars : Vars) → IsWell tables s vars → NamesColumns tables (out-RStmt s)
well_named tables s vars h = step_names tables (out-RStmt s) vars (well_by tables (out-RStmt s) s vars (roll-out-RStmt s) h)
