-- The records of a list of statements, from its first one; and what an expression is made of.
use Rattle.std.proofs.Common.{◌≡◌, ℕ, ◌+◌, List, [], ◌∷◌, ◌++◌, Result, Ok, sym, ap, ◌∙◌}
use Rattle.mv_values.specs.declared.value.Value.{Value}
use Rattle.mv_values.specs.declared.schema.TableInfo.{TableInfo}
use Rattle.mv_values.specs.declared.calls.End.{End}
use Rattle.mv_ast.specs.declared.tree.TwoOp.{TwoOp}
use Rattle.mv_values.specs.Columns.{column_of}
use Rattle.mv_catalog.specs.declared.resolved.RExpr.{RExpr, RExpr-F, fold-RExpr, fold-roll-RExpr, rolls-RExpr'}
use Rattle.mv_catalog.specs.declared.resolved.RExprKind.{RExprKind}
use Rattle.mv_catalog.specs.declared.resolved.RExprKind.TheFolds.{fold-RExprKind, fold-roll-RExprKind, map-RExprKind}
use Rattle.mv_catalog.specs.declared.resolved.RExprKind.TheViews.{roll-RExprKind}
use Rattle.mv_catalog.specs.declared.resolved.RExprKind.TheOpen.{RExprKind-F}
use Rattle.mv_catalog.specs.declared.resolved.RExprKind.TheOpen as open'
use Rattle.mv_catalog.specs.declared.resolved.RStmt.{RStmt, roll-RStmt, map-RStmt, fold-roll-RStmt, para-roll-RStmt}
use Rattle.mv_catalog.specs.declared.resolved.RStmt.TheOpen.{RStmt-F}
use Rattle.mv_eval.specs.declared.state.State.{State}
use Rattle.mv_eval.specs.declared.state.Env.{Env}
use Rattle.mv_eval.specs.Env.{scalar_at, turn_at}
use Rattle.mv_eval.specs.Value.{Evaluation, kind_step, expr_step, value_of, two_of}
use Rattle.mv_eval.specs.Alone.{Does, does, stmt_step}
use Rattle.mv_record.specs.declared.record.Record.{Record}
use Rattle.mv_recorded.specs.Asking.{on, columns_in, kind_columns}
use Rattle.mv_recorded.specs.Examples.{expr, var, two, constant, field, col}
use Rattle.mv_recorded.specs.Reading.{variables, kind_variables}
use Rattle.mv_catalog.specs.Statements.{size, size_step}
use Rattle.mv_recorded.specs.Recorded.{Recorder, Site, tell, tell_step, tell_statements}

-- a statement with what it holds
abbrev pub with_tells : List TableInfo → ℕ → RStmt-F RStmt → RStmt-F (RStmt × Recorder)
with_tells tables params y = map-RStmt RStmt (RStmt × Recorder) (λ s. (s, tell tables params s)) y

pub tell_is : (tables : List TableInfo) (params : ℕ) (y : RStmt-F RStmt) (n : ℕ) (site : Site) (before : List Record) (st : State)
    → tell tables params (roll-RStmt y) n site before st ≡ tell_step tables params (with_tells tables params y) n site before st
tell_is tables params y n site before st = ap (λ f. f n site before st) (para-roll-RStmt Recorder (tell_step tables params) y)

pub does_is : (tables : List TableInfo) (y : RStmt-F RStmt) (st : State) → does tables (roll-RStmt y) st ≡ stmt_step tables (map-RStmt RStmt Does (does tables) y) st
does_is tables y st = ap (λ f. f st) (fold-roll-RStmt Does (stmt_step tables) y)

pub size_is : (y : RStmt-F RStmt) → size (roll-RStmt y) ≡ size_step (map-RStmt RStmt ℕ size y)
size_is y = fold-roll-RStmt ℕ size_step y

-- what a list leaves whose first statement leaves these records
abbrev pub told_after : List TableInfo → ℕ → List Record → Result State End → ℕ → List RStmt → ℕ → Site → List Record → List Record
told_after tables params these outcome more ss n site before = these ++ on outcome (tell_statements tables params ss (n + more) site (before ++ these))

pub told_first : (tables : List TableInfo) (params : ℕ) (y : RStmt-F RStmt) (ss : List RStmt) (n : ℕ) (site : Site) (before : List Record) (st : State)
    → tell_statements tables params (roll-RStmt y ∷ ss) n site before st
    ≡ told_after tables params (tell_step tables params (with_tells tables params y) n site before st) (stmt_step tables (map-RStmt RStmt Does (does tables) y) st) (size_step (map-RStmt RStmt ℕ size y)) ss n site before
told_first tables params y ss n site before st =
    ap (λ these. told_after tables params these (does tables (roll-RStmt y) st) (size (roll-RStmt y)) ss n site before) (tell_is tables params y n site before st)
    ∙ (ap (λ out. told_after tables params (tell_step tables params (with_tells tables params y) n site before st) out (size (roll-RStmt y)) ss n site before) (does_is tables y st)
    ∙ ap (λ more. told_after tables params (tell_step tables params (with_tells tables params y) n site before st) (stmt_step tables (map-RStmt RStmt Does (does tables) y) st) more ss n site before) (size_is y))

expr_fold : (A B : Type 0) (step : RExprKind-F A B → A) (out : RExpr-F A B → B) (d : RExprKind-F RExprKind RExpr)
    → fold-RExpr A B step out (expr d) ≡ out (record { kind = step (map-RExprKind RExprKind RExpr A B (fold-RExprKind A B step out) (fold-RExpr A B step out) d) })
expr_fold A B step out d = ap (fold-RExpr A B step out) (sym (rolls-RExpr' (record { kind = roll-RExprKind d })))
    ∙ (fold-roll-RExpr A B step out (record { kind = roll-RExprKind d }) ∙ ap (λ k. out (record { kind = k })) (fold-roll-RExprKind A B step out d))

pub value_var : (x : ℕ) (env : Env) (row : List Value) → value_of (var x) env row ≡ Ok (scalar_at env x)
value_var x env row = ap (λ f. f env row) (expr_fold Evaluation Evaluation kind_step expr_step (open'.Var x))

pub value_constant : (v : Value) (env : Env) (row : List Value) → value_of (constant v) env row ≡ Ok v
value_constant v env row = ap (λ f. f env row) (expr_fold Evaluation Evaluation kind_step expr_step (open'.Const v))

pub variables_constant : (v : Value) → variables (constant v) ≡ []
variables_constant v = expr_fold (List ℕ) (List ℕ) kind_variables (λ e. e.kind) (open'.Const v)

pub columns_constant : (v : Value) → columns_in (constant v) ≡ []
columns_constant v = expr_fold (List ℕ) (List ℕ) kind_columns (λ e. e.kind) (open'.Const v)

pub value_field : (x c : ℕ) (env : Env) (row : List Value) → value_of (field x c) env row ≡ Ok (column_of (turn_at env x) c)
value_field x c env row = ap (λ f. f env row) (expr_fold Evaluation Evaluation kind_step expr_step (open'.Field x c))

pub value_col : (c : ℕ) (env : Env) (row : List Value) → value_of (col c) env row ≡ Ok (column_of row c)
value_col c env row = ap (λ f. f env row) (expr_fold Evaluation Evaluation kind_step expr_step (open'.Col c))

pub variables_field : (x c : ℕ) → variables (field x c) ≡ x ∷ []
variables_field x c = expr_fold (List ℕ) (List ℕ) kind_variables (λ e. e.kind) (open'.Field x c)

pub variables_col : (c : ℕ) → variables (col c) ≡ []
variables_col c = expr_fold (List ℕ) (List ℕ) kind_variables (λ e. e.kind) (open'.Col c)

pub columns_col : (c : ℕ) → columns_in (col c) ≡ c ∷ []
columns_col c = expr_fold (List ℕ) (List ℕ) kind_columns (λ e. e.kind) (open'.Col c)

pub columns_two : (op : TwoOp) (a b : RExpr) → columns_in (two op a b) ≡ columns_in a ++ columns_in b
columns_two op a b = expr_fold (List ℕ) (List ℕ) kind_columns (λ e. e.kind) (open'.Two op a b)

pub value_two : (op : TwoOp) (a b : RExpr) (env : Env) (row : List Value) → value_of (two op a b) env row ≡ two_of op (value_of a env row) (value_of b env row)
value_two op a b env row = ap (λ f. f env row) (expr_fold Evaluation Evaluation kind_step expr_step (open'.Two op a b))

pub variables_var : (x : ℕ) → variables (var x) ≡ x ∷ []
variables_var x = expr_fold (List ℕ) (List ℕ) kind_variables (λ e. e.kind) (open'.Var x)

pub variables_two : (op : TwoOp) (a b : RExpr) → variables (two op a b) ≡ variables a ++ variables b
variables_two op a b = expr_fold (List ℕ) (List ℕ) kind_variables (λ e. e.kind) (open'.Two op a b)

pub columns_var : (x : ℕ) → columns_in (var x) ≡ []
columns_var x = expr_fold (List ℕ) (List ℕ) kind_columns (λ e. e.kind) (open'.Var x)
