-- Rows as CSV. The text of a record is the `csv` crate's own definition, in its default style.
use Rattle.std.specs.Prelude.{ℕ, List, map}
use Rattle.std.specs.Fmt.{signed_decimal}
use Rattle.std.specs.List.{flat_map}
use Rattle.csv.specs.Writing.{default_writer, row_text}
use Rattle.mv_values.specs.declared.value.Value.{Value}
use Rattle.mv_values.specs.declared.value.Value.TheVariants.{Int, Text}
use Rattle.mv_values.specs.declared.rows.Keyed.{Keyed}

-- the field of a value: a number in decimal, a text unchanged
abbrev pub field_of : Value → List ℕ
field_of (Int n) = signed_decimal n
field_of (Text t) = t

-- a row as a CSV record, LF included
abbrev pub row_csv : List Value → List ℕ
row_csv row = row_text default_writer (map field_of row)

-- rows as CSV records, one after another
abbrev pub rows_csv : List Keyed → List ℕ
rows_csv rows = flat_map (λ item. row_csv item.row) rows
