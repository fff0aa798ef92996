-- The columns with REFERENCES. A column names one parent table, whose key has one column. This project's own.
use Rattle.std.specs.Prelude.{◌≡◌, ℕ, ◌+◌, Bool, ◌==◌, List, [], ◌∷◌, ◌++◌, length, Option, Some, None, slice_get, if◌then◌else◌}
use Rattle.std.specs.List.{AllByRecursion, filter, list_all, list_any}
use Rattle.std.specs.Ordering.{is_eq}
use Rattle.mv_values.specs.declared.value.Value.{Value}
use Rattle.mv_values.specs.declared.rows.Keyed.{Keyed}
use Rattle.mv_values.specs.declared.schema.Column.{Column}
use Rattle.mv_values.specs.declared.schema.TableInfo.{TableInfo}
use Rattle.mv_values.specs.Columns.{column_of}
use Rattle.mv_values.specs.Order.{value_order}
use Rattle.mv_values.specs.Tables.{columns_at, key_columns, rows_at, Tables}

-- a column of a table, and its parent table
pub record Reference : Type 0 where
  pub table : ℕ
  pub column : ℕ
  pub parent : ℕ

abbrev pub parent_in : Option Column → Option ℕ
parent_in None = None
parent_in (Some column) = column.refers

-- the parent table of a column, if it has REFERENCES
abbrev pub parent_of : List TableInfo → ℕ → ℕ → Option ℕ
parent_of tables t c = parent_in (slice_get (columns_at tables t) c)

abbrev pub reference : ℕ → ℕ → Option ℕ → List Reference
reference t c None = []
reference t c (Some parent) = record { table = t; column = c; parent = parent } ∷ []

-- those of columns of a table, the first of which has this number
abbrev pub references_from : ℕ → ℕ → List Column → List Reference
references_from t c [] = []
references_from t c (column ∷ columns) = reference t c column.refers ++ references_from t (c + 1) columns

-- the columns with REFERENCES of a table, in order
abbrev pub references : List TableInfo → ℕ → List Reference
references tables t = references_from t 0 (columns_at tables t)

-- those of tables, the first of which has this number
abbrev pub all_references : ℕ → List TableInfo → List Reference
all_references t [] = []
all_references t (table ∷ tables) = references_from t 0 table.columns ++ all_references (t + 1) tables

-- the columns with REFERENCES to a table, by table and column in declared order
abbrev pub references_to : List TableInfo → ℕ → List Reference
references_to tables t = filter (λ r. r.parent == t) (all_references 0 tables)

-- the key of each parent table has one column
abbrev pub OneKeys : List TableInfo → Type 0
OneKeys tables = (t c parent : ℕ) → parent_of tables t c ≡ Some parent → length (key_columns tables parent) ≡ 1

-- Parents of rows

-- the row's key is the value: the key of a parent table has one column
abbrev pub has_key : Value → Keyed → Bool
has_key v item = list_all (λ w. is_eq (value_order w v)) item.key

-- a table has a row with this key
abbrev pub is_there : Value → List Keyed → Bool
is_there v rows = list_any (has_key v) rows

-- the keys of these rows have one column
abbrev pub HaveOneKey : List Keyed → Type 0
HaveOneKey rows = AllByRecursion (λ (item : Keyed). length item.key ≡ 1) rows

-- those of the rows of each parent table do
abbrev pub ParentsHaveOneKey : List TableInfo → Tables → Type 0
ParentsHaveOneKey tables db = (t c parent : ℕ) → parent_of tables t c ≡ Some parent → HaveOneKey (rows_at db parent)

-- Rows without their parents

-- a value whose parent isn't there: its table is counted from 0, its row in key order and its column from 1
pub record Orphan : Type 0 where
  pub table : ℕ
  pub row : ℕ
  pub column : ℕ

-- those of the row with this number, by column
abbrev pub orphans_in : Tables → List Reference → ℕ → Keyed → List Orphan
orphans_in db [] row item = []
orphans_in db (r ∷ rs) row item =
    (if is_there (column_of item.row r.column) (rows_at db r.parent) then [] else record { table = r.table; row = row; column = r.column + 1 } ∷ []) ++ orphans_in db rs row item

-- those of rows, the first of which has this number
abbrev pub orphans_of : Tables → List Reference → ℕ → List Keyed → List Orphan
orphans_of db refs row [] = []
orphans_of db refs row (item ∷ items) = orphans_in db refs row item ++ orphans_of db refs (row + 1) items

-- those of the rows of tables, the first of which has this number
abbrev pub orphans_from : List TableInfo → Tables → ℕ → Tables → List Orphan
orphans_from tables db t [] = []
orphans_from tables db t (rows ∷ rest) = orphans_of db (references tables t) 1 rows ++ orphans_from tables db (t + 1) rest

-- all of a database, by table in declared order, row in key order, and column
abbrev pub orphans : List TableInfo → Tables → List Orphan
orphans tables db = orphans_from tables db 0 db
