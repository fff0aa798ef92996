-- The whole-table machine: what statements do to the variables, the database and the lines of a call that runs alone.
-- It knows nothing of versions, snapshots, predicates, records or repairs. This project's own.
use Rattle.std.specs.Prelude.{ℕ, pos, Bool, true, false, List, [], ◌∷◌, ◌++◌, Option, Some, None, Result, Ok, Err, map, slice_set, if◌then◌else◌}
use Rattle.mv_values.specs.declared.value.Value.{Value}
use Rattle.mv_values.specs.declared.value.Value.TheVariants.{Int}
use Rattle.mv_values.specs.declared.pred.Test.{Test}
use Rattle.mv_values.specs.declared.rows.Keyed.{Keyed}
use Rattle.mv_values.specs.declared.schema.TableInfo.{TableInfo}
use Rattle.mv_values.specs.declared.calls.End.{End}
use Rattle.mv_values.specs.declared.calls.End.TheVariants.{Own, MissingParent, HasChildren}
use Rattle.mv_values.specs.Columns.{columns_of, number}
use Rattle.mv_values.specs.References.{references, references_to}
use Rattle.mv_values.specs.Tables.{key_columns, columns_at, rows_at}
use Rattle.mv_catalog.specs.declared.resolved.RExpr.{RExpr}
use Rattle.mv_catalog.specs.declared.resolved.RCond.{RCond}
use Rattle.mv_catalog.specs.declared.resolved.RSort.{RSort}
use Rattle.mv_catalog.specs.declared.resolved.RAgg.{RAgg}
use Rattle.mv_catalog.specs.declared.resolved.RSetItem.{RSetItem}
use Rattle.mv_catalog.specs.declared.resolved.RStmt.{RStmt}
use Rattle.mv_catalog.specs.declared.resolved.RStmt.TheOpen.{RStmt-F, Assign, Select, Total, ForSelect, ForRows, Branch, Insert, Update, Delete, Print, Rollback}
use Rattle.mv_catalog.specs.declared.resolved.RStmt.TheFolds.{fold-RStmt}
use Rattle.mv_eval.specs.declared.state.Env.{Env}
use Rattle.mv_eval.specs.declared.state.State.{State}
use Rattle.mv_eval.specs.Results.{then_do}
use Rattle.mv_eval.specs.Env.{with_value, with_values, with_found, with_held, turns_at}
use Rattle.mv_eval.specs.declared.state.Content.TheVariants.{Turn}
use Rattle.mv_eval.specs.Value.{value_of, values_of, is_so}
use Rattle.mv_eval.specs.Rows.{matching, is_some_row, ordered, item_at, distinct, projected, aggregate, tests_of}
use Rattle.mv_eval.specs.Changes.{set_row_by, updated, without, new_row, put_row, keyed}
use Rattle.mv_eval.specs.References.{has_parents, fit_in, has_children}
use Rattle.mv_eval.specs.Line.{line_of}

-- what a statement does: the state after it, or the end that stops it
abbrev pub Does : Type 0
Does = State → Result State End

-- one after another, up to the first end
abbrev pub all_of : List Does → Does
all_of [] st = Ok st
all_of (d ∷ ds) st = then_do (d st) (all_of ds)

-- once for each row of a loop
abbrev pub each_turn : ℕ → Does → List (List Value) → Does
each_turn x body [] st = Ok st
each_turn x body (row ∷ rows) st = then_do (body (record st { env = with_held st.env x (Turn row) })) (each_turn x body rows)

-- the rows of a table that pass the tests
abbrev pub matching_in : ℕ → List Test → State → List Keyed
matching_in t tests st = matching tests (rows_at st.tables t)

-- the state with the rows of a table changed, and `:found`
abbrev pub with_rows : ℕ → List Keyed → Bool → State → State
with_rows t rows found st = record st { env = with_found st.env found; tables = slice_set st.tables t rows }

abbrev pub offset_of : Option RExpr → Env → Result Value End
offset_of None env = Ok (Int (pos 0))
offset_of (Some e) env = value_of e env []

-- the targets take the row's columns, and `:found` says whether there is a row
abbrev pub with_selected : List ℕ → List ℕ → Option Keyed → Env → Env
with_selected cs xs None env = with_found env false
with_selected cs xs (Some item) env = with_found (with_values env xs (columns_of item.row cs)) true

-- the target takes the total, if there is one
abbrev pub totalled : ℕ → Option Value → Env → Env
totalled x None env = env
totalled x (Some v) env = with_value env x v

-- the rows of a loop over a table, fixed before its first turn
abbrev pub fixed : Bool → List ℕ → List RSort → List Keyed → List (List Value)
fixed true cs sorts rows = distinct (projected cs rows)
fixed false cs sorts rows = projected cs (ordered sorts rows)

abbrev pub is_turn : List (List Value) → Bool
is_turn [] = false
is_turn (row ∷ rows) = true

-- `:found` says whether there is a turn, before the first one
abbrev pub loop_over : ℕ → Does → List (List Value) → Does
loop_over x body rows st = each_turn x body rows (record st { env = with_found st.env (is_turn rows) })

-- SET
abbrev pub assign : ℕ → RExpr → Does
assign x e st = then_do (value_of e st.env []) (λ v. Ok (record st { env = with_value st.env x v }))

-- SELECT INTO
abbrev pub select : List TableInfo → List ℕ → List ℕ → ℕ → List RCond → List RSort → Option RExpr → Does
select tables cs xs t conds sorts offset st =
    then_do (tests_of (key_columns tables t) conds st.env) (λ tests. then_do (offset_of offset st.env) (λ n.
    Ok (record st { env = with_selected cs xs (item_at (ordered sorts (matching_in t tests st)) (number n)) st.env })))

-- SELECT with an aggregate
abbrev pub sum_up : List TableInfo → RAgg → ℕ → ℕ → List RCond → Does
sum_up tables agg x t conds st =
    then_do (tests_of (key_columns tables t) conds st.env) (λ tests. then_do (aggregate agg (matching_in t tests st)) (λ v.
    Ok (record st { env = with_found (totalled x v st.env) (is_some_row (matching_in t tests st)) })))

-- FOR over SELECT
abbrev pub for_select : List TableInfo → ℕ → Bool → List ℕ → ℕ → List RCond → List RSort → Does → Does
for_select tables x once cs t conds sorts body st =
    then_do (tests_of (key_columns tables t) conds st.env) (λ tests. loop_over x body (fixed once cs sorts (matching_in t tests st)) st)

-- FOR over a ROWS parameter
abbrev pub for_rows : ℕ → ℕ → Does → Does
for_rows x y body st = loop_over x body (turns_at st.env y) st

-- IF
abbrev pub branch : RExpr → Does → Does → Does
branch e ys ns st = then_do (value_of e st.env []) (λ v. if is_so v then ys st else ns st)

-- INSERT
abbrev pub insert : List TableInfo → ℕ → List RExpr → Does
insert tables t es st =
    then_do (new_row (columns_at tables t) es st.env) (λ row.
    then_do (put_row (keyed (key_columns tables t) row) (rows_at st.tables t)) (λ rows.
    if has_parents (references tables t) (keyed (key_columns tables t) row) st.tables then Ok (with_rows t rows true st) else Err MissingParent))

-- UPDATE
abbrev pub update : List TableInfo → ℕ → List RSetItem → List RCond → Does
update tables t items conds st =
    then_do (tests_of (key_columns tables t) conds st.env) (λ tests.
    then_do (updated (λ row. set_row_by (fit_in tables t st.tables) (key_columns tables t) st.env row items row) tests (rows_at st.tables t)) (λ rows.
    Ok (with_rows t rows (is_some_row (matching_in t tests st)) st)))

-- DELETE
abbrev pub delete : List TableInfo → ℕ → List RCond → Does
delete tables t conds st =
    then_do (tests_of (key_columns tables t) conds st.env) (λ tests.
    if has_children (references_to tables t) t tests st.tables (matching_in t tests st) then Err HasChildren
    else Ok (with_rows t (without tests (rows_at st.tables t)) (is_some_row (matching_in t tests st)) st))

-- PRINT
abbrev pub print : List RExpr → Does
print es st = then_do (values_of es st.env) (λ vs. Ok (record st { lines = st.lines ++ line_of vs ∷ [] }))

-- what a statement does, given what the statements in it do
abbrev pub stmt_step : List TableInfo → RStmt-F Does → Does
stmt_step tables (Assign x e) = assign x e
stmt_step tables (Select cs xs t conds sorts offset) = select tables cs xs t conds sorts offset
stmt_step tables (Total agg x t conds) = sum_up tables agg x t conds
stmt_step tables (ForSelect x once cs t conds sorts body) = for_select tables x once cs t conds sorts (all_of body)
stmt_step tables (ForRows x y body) = for_rows x y (all_of body)
stmt_step tables (Branch e ys ns) = branch e (all_of ys) (all_of ns)
stmt_step tables (Insert t es) = insert tables t es
stmt_step tables (Update t items conds) = update tables t items conds
stmt_step tables (Delete t conds) = delete tables t conds
stmt_step tables (Print es) = print es
stmt_step tables (Rollback reason) = λ st. Err (Own reason)

-- what a statement does alone
abbrev pub does : List TableInfo → RStmt → Does
does tables = fold-RStmt Does (stmt_step tables)

-- what a list of statements does alone
abbrev pub alone : List TableInfo → List RStmt → Does
alone tables ss = all_of (map (does tables) ss)
