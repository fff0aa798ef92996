-- Rows that join the rows of a table. Each row is stored under its key, and no two rows have the same key.
use Rattle.std.specs.Prelude.{◌≡◌, ◌++◌, ◌∷◌, ◌+◌, ℕ, List, [], map, length, Contains, IsPermutation}
use Rattle.mv_values.specs.declared.value.Value.{Value}
use Rattle.mv_values.specs.declared.rows.Keyed.{Keyed}
use Rattle.mv_values.specs.declared.schema.TableInfo.{TableInfo}
use Rattle.mv_values.specs.Columns.{columns_of}
use Rattle.mv_values.specs.Keys.{IsRising}
use Rattle.mv_csvio.specs.declared.fault.CopyFault.{CopyFault}
use Rattle.mv_csvio.specs.declared.fault.CopyFault.TheVariants as fault

-- a row with its key
abbrev pub under_key : TableInfo → List Value → Keyed
under_key table row = record { key = columns_of row table.key; row = row }

-- the new rows join the earlier rows: together they are the rows after, with strictly rising keys
abbrev pub HasJoined : TableInfo → List Keyed → List (List Value) → List Keyed → Type 0
HasJoined table before rows after = IsRising after × IsPermutation (before ++ map (under_key table) rows) after

-- a row has this key
abbrev pub HasKey : List Keyed → List Value → Type 0
HasKey rows key = Contains (map (λ item. item.key) rows) key

-- why the row with this number can't join the others: one of them has its key
abbrev pub IsDuplicate : TableInfo → List Keyed → List Value → ℕ → CopyFault → Type 0
IsDuplicate table there row number (fault.Duplicate r) = (r ≡ number) × HasKey there (columns_of row table.key)
IsDuplicate table there row number fault.NoMemory = ⊥
IsDuplicate table there row number (fault.Field r c) = ⊥
IsDuplicate table there row number (fault.Width r) = ⊥

-- the row with this number is the first whose key an earlier row has: the rows before it join, and one of them has its
-- key; rows count from 1
abbrev pub IsFirstDuplicate : TableInfo → List (List Value) → ℕ → Type 0
IsFirstDuplicate table rows number =
    (front : List (List Value)) × (row : List Value) × (rest : List (List Value)) × (there : List Keyed)
    × (rows ≡ front ++ row ∷ rest)
    × HasJoined table [] front there
    × HasKey there (columns_of row table.key)
    × (number ≡ length front + 1)

-- why the rows of VALUES can't be loaded
abbrev pub TellsOfValues : TableInfo → List (List Value) → CopyFault → Type 0
TellsOfValues table rows (fault.Duplicate row) = IsFirstDuplicate table rows row
TellsOfValues table rows fault.NoMemory = ⊥
TellsOfValues table rows (fault.Field row column) = ⊥
TellsOfValues table rows (fault.Width row) = ⊥
