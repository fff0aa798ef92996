-- The predicates with which a statement queries tables. That predicates represent what was read is the paper's (Dashti,
-- Basil John, Shaikhha and Koch, SIGMOD 2017); their tests and columns, and the checks, are this project's own.
use Rattle.std.specs.Prelude.{◌<◌, ◌==◌, ℕ, Bool, not, All, length, List, [], ◌∷◌, ◌++◌, Option, Some, None, Result, Ok, Err, map, if◌then◌else◌}
use Rattle.std.specs.List.{filter, flat_map, list_all, list_any}
use Rattle.std.specs.Option.{option_or}
use Rattle.std.specs.Ordering.{is_eq}
use Rattle.mv_values.specs.declared.value.Value.{Value}
use Rattle.mv_values.specs.declared.op.Op.TheVariants.{Eq}
use Rattle.mv_values.specs.declared.pred.Pred.{Pred}
use Rattle.mv_values.specs.declared.pred.Test.{Test}
use Rattle.mv_values.specs.declared.schema.TableInfo.{TableInfo}
use Rattle.mv_values.specs.declared.calls.End.{End}
use Rattle.mv_values.specs.declared.calls.End.TheVariants.{Duplicate, MissingParent, HasChildren}
use Rattle.mv_values.specs.declared.rows.Keyed.{Keyed}
use Rattle.mv_values.specs.Keys.{keys}
use Rattle.mv_values.specs.Order.{key_order}
use Rattle.mv_values.specs.Patching.{found_by}
use Rattle.mv_values.specs.References.{parent_of, references, references_to}
use Rattle.mv_values.specs.Columns.{column_of}
use Rattle.mv_values.specs.Tables.{key_columns, columns_at}
use Rattle.mv_catalog.specs.declared.resolved.RExpr.{RExpr, fold-RExpr}
use Rattle.mv_catalog.specs.declared.resolved.RExprKind.TheOpen as kind
use Rattle.mv_catalog.specs.declared.resolved.RExprKind.TheOpen.{RExprKind-F}
use Rattle.mv_catalog.specs.declared.resolved.RAgg.{RAgg}
use Rattle.mv_catalog.specs.declared.resolved.RAgg.TheVariants.{CountAll, CountDistinct, Sum, Min, Max}
use Rattle.mv_catalog.specs.declared.resolved.RCond.{RCond}
use Rattle.mv_catalog.specs.declared.resolved.RSort.{RSort}
use Rattle.mv_catalog.specs.declared.resolved.RSetItem.{RSetItem}
use Rattle.mv_catalog.specs.declared.resolved.RStmt.TheOpen.{RStmt-F, Assign, Select, Total, ForSelect, ForRows, Branch, Insert, Update, Delete, Print, Rollback}
use Rattle.mv_eval.specs.declared.state.State.{State}
use Rattle.mv_eval.specs.declared.state.Env.{Env}
use Rattle.mv_eval.specs.Results.{then_do}
use Rattle.mv_eval.specs.Value.{value_of}
use Rattle.mv_eval.specs.Alone.{offset_of, matching_in}
use Rattle.mv_eval.specs.Rows.{tests_of, test_on, IsPlaced, is_some_row, fit}
use Rattle.mv_eval.specs.Changes.{new_row, keyed}
use Rattle.mv_eval.specs.References.{is_own_parent}
use Rattle.mv_recorded.specs.Reading.{each_once}

-- continues with the value; empty after a fault
abbrev pub on : {A B : Type 0} → Result A End → (A → List B) → List B
on (Ok x) go = go x
on (Err e) go = []

-- the rows of a table that pass the tests, and the columns selected from them
abbrev pub pred_of : ℕ → List Test → List ℕ → Pred
pred_of t tests cs = record { table = t; tests = tests; columns = each_once cs }

-- the bare columns in an expression, in the order of the text
abbrev pub kind_columns : RExprKind-F (List ℕ) (List ℕ) → List ℕ
kind_columns (kind.Const v) = []
kind_columns (kind.Var x) = []
kind_columns (kind.Field x c) = []
kind_columns (kind.Col c) = c ∷ []
kind_columns (kind.One op a) = a
kind_columns (kind.Two op a b) = a ++ b

abbrev pub columns_in : RExpr → List ℕ
columns_in = fold-RExpr (List ℕ) (List ℕ) kind_columns (λ e. e.kind)

-- the column of an aggregate
abbrev pub column_in : RAgg → List ℕ
column_in CountAll = []
column_in (CountDistinct c) = c ∷ []
column_in (Sum c) = c ∷ []
column_in (Min c) = c ∷ []
column_in (Max c) = c ∷ []

-- each key column equals the row's value
abbrev pub same_key : List ℕ → List Value → List Test
same_key keys row = map (λ c. test_on keys c Eq (column_of row c)) keys

-- the predicate with the tests of WHERE and these selected columns
abbrev pub preds_for : List TableInfo → ℕ → List RCond → List ℕ → State → List Pred
preds_for tables t conds cs st = on (tests_of (key_columns tables t) conds st.env) (λ tests. pred_of t tests cs ∷ [])

-- the listed columns, followed by those of ORDER BY
abbrev pub with_sorts : List ℕ → List RSort → List ℕ
with_sorts cs sorts = cs ++ map (λ s. s.column) sorts

-- Checks

-- what a statement checks after its first query: that a value has no fault; that a predicate finds a row; that it finds
-- no rows but those with some keys
pub data Check : Type 0 where
  faults : End → Check
  needs : Pred → End → Check
  forbids : Pred → List (List Value) → End → Check

-- the key is one of these
abbrev pub is_among : List (List Value) → List Value → Bool
is_among all key = list_any (λ k. is_eq (key_order k key)) all

-- the end of a statement whose check fails on a database
abbrev pub fault_of : Check → List (List Keyed) → Option End
fault_of (faults e) db = Some e
fault_of (needs p e) db = if is_some_row (found_by p db) then None else Some e
fault_of (forbids p but e) db = if list_all (is_among but) (keys (found_by p db)) then None else Some e

-- the first of these faults
abbrev pub first_fault : List Check → List (List Keyed) → Option End
first_fault [] db = None
first_fault (c ∷ cs) db = option_or (fault_of c db) (first_fault cs db)

abbrev pub asked_in : Check → List Pred
asked_in (faults e) = []
asked_in (needs p e) = p ∷ []
asked_in (forbids p but e) = p ∷ []

abbrev pub if_none : Option End → List Pred → List Pred
if_none None ps = ps
if_none (Some e) ps = []

-- the predicates of checks, up to and including the first that fails
abbrev pub preds_up_to : List Check → List (List Keyed) → List Pred
preds_up_to [] db = []
preds_up_to (c ∷ cs) db = asked_in c ++ if_none (fault_of c db) (preds_up_to cs db)

-- a row of the parent table whose key is this value
abbrev pub parent_pred : List TableInfo → ℕ → Value → Pred
parent_pred tables parent v = pred_of parent (map (λ c. test_on (key_columns tables parent) c Eq v) (key_columns tables parent)) []

-- the rows of a table whose column holds this key
abbrev pub child_pred : List TableInfo → ℕ → ℕ → List Value → Pred
child_pred tables t c key = pred_of t (map (λ v. test_on (key_columns tables t) c Eq v) key) []

-- INSERT of a row: that no row has its key; then, for each column with REFERENCES whose parent isn't the row itself, that
-- its parent is there
abbrev pub insert_checks : List TableInfo → ℕ → List Value → List Check
insert_checks tables t row =
    forbids (pred_of t (same_key (key_columns tables t) row) []) [] Duplicate
    ∷ map (λ r. needs (parent_pred tables r.parent (column_of row r.column)) MissingParent) (filter (λ r. not (is_own_parent (keyed (key_columns tables t) row) r)) (references tables t))

-- that a value has no fault; and if its column has REFERENCES, that its parent is there
abbrev pub value_checks : List TableInfo → Option ℕ → Result Value End → List Check
value_checks tables parent (Err e) = faults e ∷ []
value_checks tables None (Ok v) = []
value_checks tables (Some parent) (Ok v) = needs (parent_pred tables parent v) MissingParent ∷ []

abbrev pub item_checks : List TableInfo → ℕ → Env → List Value → RSetItem → List Check
item_checks tables t env row i = value_checks tables (parent_of tables t i.column) (then_do (value_of i.right env row) (fit (columns_at tables t) i.column))

-- UPDATE of the rows that it found: for each row, the value of each item of SET
abbrev pub update_checks : List TableInfo → ℕ → List RSetItem → Env → List Keyed → List Check
update_checks tables t items env rows = flat_map (λ item. flat_map (item_checks tables t env item.row) items) rows

-- DELETE of the rows that it found: for each column with REFERENCES to their table, and each row, that no row holds its
-- key there but rows that are deleted too
abbrev pub delete_checks : List TableInfo → ℕ → List Keyed → List Check
delete_checks tables t rows =
    flat_map (λ r. map (λ item. forbids (child_pred tables r.table r.column item.key) (if r.table == t then keys rows else []) HasChildren) rows) (references_to tables t)

-- Statements

-- the predicates of a statement; none if it faults before it looks at rows
abbrev pub preds_of : {X : Type 0} → List TableInfo → RStmt-F X → State → List Pred
preds_of tables (Select cs xs t conds sorts offset) st = on (offset_of offset st.env) (λ n. preds_for tables t conds (with_sorts cs sorts) st)
preds_of tables (Total agg x t conds) st = preds_for tables t conds (column_in agg) st
preds_of tables (ForSelect x once cs t conds sorts body) st = preds_for tables t conds (with_sorts cs sorts) st
preds_of tables (Insert t es) st = on (new_row (columns_at tables t) es st.env) (λ row. preds_up_to (insert_checks tables t row) st.tables)
preds_of tables (Update t items conds) st =
    on (tests_of (key_columns tables t) conds st.env) (λ tests.
    pred_of t tests (flat_map (λ i. columns_in i.right) items) ∷ preds_up_to (update_checks tables t items st.env (matching_in t tests st)) st.tables)
preds_of tables (Delete t conds) st =
    on (tests_of (key_columns tables t) conds st.env) (λ tests. pred_of t tests [] ∷ preds_up_to (delete_checks tables t (matching_in t tests st)) st.tables)
preds_of tables (Assign x e) st = []
preds_of tables (ForRows x y body) st = []
preds_of tables (Branch e ys ns) st = []
preds_of tables (Print es) st = []
preds_of tables (Rollback reason) st = []

-- the predicate's table exists, and each of its tests has the position of its column in the key
pub record KnowsKey (tables : List TableInfo) (pred : Pred) : Type 0 where
  pub table : pred.table < length tables
  pub places : All (IsPlaced (key_columns tables pred.table)) pred.tests
