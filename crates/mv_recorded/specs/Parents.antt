-- The laws of parents: an INSERT, UPDATE or DELETE ends with the first fault of what it checks, and no statement leaves a
-- row without its parent. So no row of an accepted script ever lacks one. This project's own.
use Rattle.std.specs.Prelude.{◌≡◌, ℕ, true, List, [], Ok}
use Rattle.mv_values.specs.declared.value.Value.{Value}
use Rattle.mv_values.specs.declared.pred.Test.{Test}
use Rattle.mv_values.specs.declared.rows.Keyed.{Keyed}
use Rattle.mv_values.specs.declared.schema.TableInfo.{TableInfo}
use Rattle.mv_values.specs.Columns.{column_of}
use Rattle.mv_values.specs.References.{Reference, references, is_there, orphans}
use Rattle.mv_values.specs.Tables.{rows_at, columns_at, key_columns, Tables}
use Rattle.mv_catalog.specs.declared.resolved.Program.{Program}
use Rattle.mv_catalog.specs.declared.resolved.RExpr.{RExpr}
use Rattle.mv_catalog.specs.declared.resolved.RCond.{RCond}
use Rattle.mv_catalog.specs.declared.resolved.RSetItem.{RSetItem}
use Rattle.mv_catalog.specs.declared.resolved.RStmt.{RStmt}
use Rattle.mv_catalog.specs.declared.resolved.RStmt.TheOpen.{RStmt-F, Insert, Update, Delete}
use Rattle.mv_eval.specs.declared.state.State.{State}
use Rattle.mv_eval.specs.Changes.{new_row}
use Rattle.mv_eval.specs.Alone.{matching_in}
use Rattle.mv_eval.specs.Rows.{tests_of}
use Rattle.mv_eval.specs.TableAfter.{table_after}
use Rattle.mv_record.specs.Databases.{IsDatabaseOf}
use Rattle.mv_recorded.specs.Asking.{first_fault, insert_checks, update_checks, delete_checks}
use Rattle.mv_recorded.specs.Doing.{effect_of, itself}
use Rattle.mv_recorded.specs.Own.{Each}

-- the end of a statement that looked at rows is the first fault of what it checks
pub record EndsWithFault (tables : List TableInfo) (st : State) : Type 0 where
  pub insert : (t : ℕ) (es : List RExpr) (row : List Value) → new_row (columns_at tables t) es st.env ≡ Ok row
      → (effect_of {X = RStmt} tables (Insert t es) st).end ≡ first_fault (insert_checks tables t row) st.tables
  pub update : (t : ℕ) (items : List RSetItem) (conds : List RCond) (tests : List Test) → tests_of (key_columns tables t) conds st.env ≡ Ok tests
      → (effect_of {X = RStmt} tables (Update t items conds) st).end ≡ first_fault (update_checks tables t items st.env (matching_in t tests st)) st.tables
  pub delete : (t : ℕ) (conds : List RCond) (tests : List Test) → tests_of (key_columns tables t) conds st.env ≡ Ok tests
      → (effect_of {X = RStmt} tables (Delete t conds) st).end ≡ first_fault (delete_checks tables t (matching_in t tests st)) st.tables

abbrev pub EndsAreFaults : Type 0
EndsAreFaults = (tables : List TableInfo) (st : State) → IsDatabaseOf tables st.tables → EndsWithFault tables st

-- each of these columns of a row holds the key of a row of its parent table
abbrev pub HasParents : Tables → List Reference → Keyed → Type 0
HasParents db refs item = Each (λ (r : Reference). is_there (column_of item.row r.column) (rows_at db r.parent) ≡ true) refs

-- no row lacks a parent
abbrev pub ReferencesStand : List TableInfo → Tables → Type 0
ReferencesStand tables db = (t : ℕ) → Each (HasParents db (references tables t)) (rows_at db t)

-- a statement that doesn't end the call leaves no row without its parent
abbrev pub ReferencesKept : Type 0
ReferencesKept = (tables : List TableInfo) (s : RStmt-F RStmt) (st next : State) → ReferencesStand tables st.tables → itself tables s st ≡ Ok next → ReferencesStand tables next.tables

-- no row of a database lacks a parent if the check of opening rows finds none that does
abbrev pub NoOrphanStands : Type 0
NoOrphanStands = (tables : List TableInfo) (db : Tables) → orphans tables db ≡ [] → ReferencesStand tables db

-- if no opening row lacks a parent, no row does after any calls of the program, in any order
abbrev pub CallsKeepReferences : Type 0
CallsKeepReferences = (p : Program) → ReferencesStand p.resolved.tables p.opening → (order : List ℕ) (k : ℕ) → ReferencesStand p.resolved.tables (table_after p order k)
