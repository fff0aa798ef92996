-- The numbers of tables that are found by name. A table or a column that isn't there, or a column that isn't INT, counts as
-- having no rows.
use Rattle.std.specs.Prelude.{ℕ, ℤ, Bool, true, false, ◌&&◌, List, [], ◌∷◌, Option, Some, None, map, pos, ◌+ℤ◌, slice_get}
use Rattle.std.specs.List.{position}
use Rattle.std.specs.Option.{option_and_then, option_map, option_map_or}
use Rattle.std.specs.Str.{bytes_eq}
use Rattle.mv_values.specs.declared.value.Value.{Value}
use Rattle.mv_values.specs.declared.rows.Keyed.{Keyed}
use Rattle.mv_values.specs.declared.schema.ColType.{ColType}
use Rattle.mv_values.specs.declared.schema.ColType.TheVariants as kind
use Rattle.mv_values.specs.declared.schema.Column.{Column}
use Rattle.mv_values.specs.declared.schema.TableInfo.{TableInfo}
use Rattle.mv_values.specs.Columns.{column_of, columns_of, number}

-- the place of the table with a name
abbrev pub table_place : List TableInfo → List ℕ → Option ℕ
table_place tables name = position (λ table. bytes_eq table.name name) tables

-- the columns and the rows of a table that was found
abbrev pub found_columns : List TableInfo → Option ℕ → List Column
found_columns tables None = []
found_columns tables (Some place) = option_map_or (λ table. table.columns) (slice_get tables place) []

abbrev pub found_rows : List (List Keyed) → Option ℕ → List Keyed
found_rows database None = []
found_rows database (Some place) = option_map_or (λ rows. rows) (slice_get database place) []

abbrev pub is_int : ColType → Bool
is_int kind.Int = true
is_int (kind.Text most) = false

-- the place of the INT column with a name
abbrev pub column_place : List Column → List ℕ → Option ℕ
column_place columns name = position (λ c. is_int c.kind && bytes_eq c.name name) columns

-- the places of INT columns; none if one of them isn't there
abbrev pub column_places : List Column → List (List ℕ) → Option (List ℕ)
column_places columns [] = Some []
column_places columns (name ∷ names) = option_and_then (λ place. option_map (λ places. place ∷ places) (column_places columns names)) (column_place columns name)

-- a number, with the values by which it is grouped
abbrev pub Entry : Type 0
Entry = List Value × ℤ

abbrev pub entry_of : List ℕ → ℕ → Keyed → Entry
entry_of places place item = (columns_of item.row places, number (column_of item.row place))

abbrev pub entries_at : List Keyed → Option (List ℕ) → Option ℕ → List Entry
entries_at rows (Some places) (Some place) = map (entry_of places place) rows
entries_at rows (Some places) None = []
entries_at rows None place = []

-- the rows of the table with a name
abbrev pub rows_of : List TableInfo → List (List Keyed) → List ℕ → List Keyed
rows_of tables database table = found_rows database (table_place tables table)

-- the numbers of a column of a table in key order, each with the values of the columns by which it is grouped
unfoldable pub entries : List TableInfo → List (List Keyed) → List ℕ → List (List ℕ) → List ℕ → List Entry
entries tables database table keys column =
    let columns = found_columns tables (table_place tables table) in
    entries_at (rows_of tables database table) (column_places columns keys) (column_place columns column)

-- the numbers of a column
abbrev pub column : List TableInfo → List (List Keyed) → List ℕ → List ℕ → List ℤ
column tables database table name = map (λ e. e.1) (entries tables database table [] name)

-- the sum of numbers
abbrev pub sum_of : List ℤ → ℤ
sum_of [] = pos 0
sum_of (z ∷ zs) = z +ℤ sum_of zs
