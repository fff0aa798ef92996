-- What loading a block of CSV adds to the rows of a table.
use Rattle.std.specs.Prelude.{◌≡◌, ◌++◌, ◌∷◌, ◌+◌, ℕ, List, length}
use Rattle.std.specs.List.{AllZip}
use Rattle.csv.specs.Reading.{default_config, records, strip_bom}
use Rattle.mv_values.specs.declared.value.Value.{Value}
use Rattle.mv_values.specs.declared.rows.Keyed.{Keyed}
use Rattle.mv_values.specs.declared.schema.TableInfo.{TableInfo}
use Rattle.mv_values.specs.Columns.{columns_of}
use Rattle.mv_csvio.specs.declared.fault.CopyFault.{CopyFault}
use Rattle.mv_csvio.specs.declared.fault.CopyFault.TheVariants as fault
use Rattle.mv_csvio.specs.Fields.{IsNoRow, IsRow}
use Rattle.mv_csvio.specs.Joining.{HasJoined, HasKey}

-- a record of CSV: its fields
abbrev pub Record : Type 0
Record = List (List ℕ)

-- the records of a block, by the `csv` crate's own definition, with its default configuration; a leading byte order
-- mark is skipped, and no record is a header
abbrev pub records_of : List ℕ → List Record
records_of block = records default_config (strip_bom block)

-- every record is a row of the table, and these rows join the earlier rows
abbrev pub HasLoaded : TableInfo → List Keyed → List Record → List Keyed → Type 0
HasLoaded table before block after = (rows : List (List Value)) × AllZip (IsRow table.columns) block rows × HasJoined table before rows after

-- why a record can't be loaded after those before it: it isn't a row, or its key is already there
abbrev pub IsBad : TableInfo → List Keyed → Record → ℕ → CopyFault → Type 0
IsBad table there bad number (fault.Duplicate r) = (r ≡ number) × (row : List Value) × IsRow table.columns bad row × HasKey there (columns_of row table.key)
IsBad table there bad number (fault.Field r c) = IsNoRow table.columns bad number (fault.Field r c)
IsBad table there bad number (fault.Width r) = IsNoRow table.columns bad number (fault.Width r)
IsBad table there bad number fault.NoMemory = ⊥

-- the fault is that of the first bad record: those before it can be loaded, and it can't; records count from 1
abbrev pub IsFirstBad : TableInfo → List Keyed → List Record → CopyFault → Type 0
IsFirstBad table before block f =
    (front : List Record) × (bad : Record) × (rest : List Record) × (there : List Keyed)
    × (block ≡ front ++ bad ∷ rest)
    × HasLoaded table before front there
    × IsBad table there bad (length front + 1) f
