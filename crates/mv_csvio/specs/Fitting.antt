-- The rows that a table may have.
use Rattle.std.specs.Prelude.{◌≡◌, ◌≤◌, ◌<◌, List, All, length}
use Rattle.std.specs.List.{AllZip}
use Rattle.std.specs.Int.RustNames.{FitsSigned}
use Rattle.std.specs.Int.{w64}
use Rattle.mv_values.specs.declared.value.Value.{Value}
use Rattle.mv_values.specs.declared.value.Value.TheVariants as value
use Rattle.mv_values.specs.declared.rows.Keyed.{Keyed}
use Rattle.mv_values.specs.declared.schema.ColType.{ColType}
use Rattle.mv_values.specs.declared.schema.ColType.TheVariants as column
use Rattle.mv_values.specs.declared.schema.TableInfo.{TableInfo}
use Rattle.mv_values.specs.Columns.{columns_of}
use Rattle.mv_values.specs.Printable.{IsPrintable}

-- the value has the type: a 64-bit signed number, or a printable text no longer than the type allows
abbrev pub FitsType : ColType → Value → Type 0
FitsType column.Int (value.Int z) = FitsSigned w64 z
FitsType column.Int (value.Text t) = ⊥
FitsType (column.Text n) (value.Int z) = ⊥
FitsType (column.Text n) (value.Text t) = All IsPrintable t × (length t ≤ n)

-- the row has a value of the right type for each column
abbrev pub HasTypes : TableInfo → List Value → Type 0
HasTypes table row = AllZip (λ c v. FitsType c.kind v) table.columns row

-- the row has the right types and is stored under its key
abbrev pub FitsTable : TableInfo → Keyed → Type 0
FitsTable table item = HasTypes table item.row × (item.key ≡ columns_of item.row table.key)

-- every row fits the table, and the table has at least one column
abbrev pub AllFit : TableInfo → List Keyed → Type 0
AllFit table rows = (0 < length table.columns) × All (FitsTable table) rows
