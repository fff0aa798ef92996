-- Parents and children of rows. A row's parent is the row of the parent table whose key its column holds. This project's
-- own.
use Rattle.std.specs.Prelude.{ℕ, Bool, ◌==◌, ◌&&◌, ◌||◌, List, Option, Some, None, Result, Ok, Err, if◌then◌else◌}
use Rattle.std.specs.List.{list_all, list_any}
use Rattle.std.specs.Ordering.{is_eq}
use Rattle.mv_values.specs.declared.value.Value.{Value}
use Rattle.mv_values.specs.declared.pred.Test.{Test}
use Rattle.mv_values.specs.declared.rows.Keyed.{Keyed}
use Rattle.mv_values.specs.declared.schema.TableInfo.{TableInfo}
use Rattle.mv_values.specs.declared.calls.End.{End}
use Rattle.mv_values.specs.declared.calls.End.TheVariants.{MissingParent}
use Rattle.mv_values.specs.Columns.{column_of}
use Rattle.mv_values.specs.Order.{value_order}
use Rattle.mv_values.specs.References.{Reference, parent_of, has_key, is_there}
use Rattle.mv_values.specs.Tables.{columns_at, rows_at, Tables}
use Rattle.mv_eval.specs.Results.{then_do}
use Rattle.mv_eval.specs.Rows.{fit}
use Rattle.mv_eval.specs.Changes.{without}

-- Parents

-- a new row is the one that its own column refers to
abbrev pub is_own_parent : Keyed → Reference → Bool
is_own_parent new r = (r.parent == r.table) && has_key (column_of new.row r.column) new

-- each of these columns of a new row has its parent; the new row counts as its own
abbrev pub has_parents : List Reference → Keyed → Tables → Bool
has_parents refs new db = list_all (λ r. is_own_parent new r || is_there (column_of new.row r.column) (rows_at db r.parent)) refs

-- the value, if its column has no REFERENCES or the parent is there
abbrev pub with_parent : Option ℕ → Tables → Value → Result Value End
with_parent None db v = Ok v
with_parent (Some parent) db v = if is_there v (rows_at db parent) then Ok v else Err MissingParent

-- the value of a column, or a text too long, or a missing parent
abbrev pub fit_in : List TableInfo → ℕ → Tables → ℕ → Value → Result Value End
fit_in tables t db c v = then_do (fit (columns_at tables t) c v) (with_parent (parent_of tables t c) db)

-- Children

-- the column of the row holds the key
abbrev pub holds_key : ℕ → List Value → Keyed → Bool
holds_key c key item = list_all (λ v. is_eq (value_order (column_of item.row c) v)) key

-- the rows of a table that stay when those that match are removed from table t
abbrev pub left_in : ℕ → List Test → Tables → ℕ → List Keyed
left_in t tests db u = if u == t then without tests (rows_at db u) else rows_at db u

-- one of these rows has a child that stays
abbrev pub has_children : List Reference → ℕ → List Test → Tables → List Keyed → Bool
has_children refs t tests db rows = list_any (λ r. list_any (λ item. list_any (holds_key r.column item.key) (left_in t tests db r.table)) rows) refs
