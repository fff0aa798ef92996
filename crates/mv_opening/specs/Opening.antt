-- The database that the calls of a script begin with: the rows of VALUES, table by table, and then the blocks of the
-- copies in the order of the text. The script is refused for the first part that can't be loaded.
use Rattle.std.specs.Prelude.{◌≡◌, ◌++◌, ◌∷◌, ◌+◌, ◌<◌, ◌≤◌, ◌^◌, ◌⊎◌, ⊤, ℕ, true, false, List, [], All, length, Option, Some, None, slice_get, slice_range, slice_set}
use Rattle.mv_values.specs.declared.value.Value.{Value}
use Rattle.mv_values.specs.declared.rows.Keyed.{Keyed}
use Rattle.mv_values.specs.declared.schema.TableInfo.{TableInfo}
use Rattle.mv_catalog.specs.declared.resolved.CopyInfo.{CopyInfo}
use Rattle.mv_catalog.specs.declared.resolved.Resolved.{Resolved}
use Rattle.mv_values.specs.Tables.{rows_at}
use Rattle.mv_csvio.specs.declared.fault.CopyFault.{CopyFault}
use Rattle.mv_csvio.specs.declared.fault.CopyFault.TheVariants as copy
use Rattle.mv_csvio.specs.Joining.{HasJoined, TellsOfValues}
use Rattle.mv_csvio.specs.Loading.{HasLoaded, IsFirstBad, records_of}
use Rattle.mv_opening.specs.declared.fault.OpeningFault.{OpeningFault}
use Rattle.mv_opening.specs.declared.fault.OpeningFault.TheVariants as fault

-- the copy has one of so many tables, and a block within so many bytes
abbrev pub IsBlockAt : ℕ → ℕ → CopyInfo → Type 0
IsBlockAt tables size c = (c.table < tables) × (c.at + c.len ≤ size)

-- the script fits the bytes: each copy has a table and a block within the bytes, and no number is too large
pub record FitTogether (resolved : Resolved) (bytes : List ℕ) : Type 0 where
  pub tables : length resolved.tables ≤ 256
  pub values : length resolved.rows ≡ length resolved.tables
  pub rows : All (λ rows. length rows < 2 ^ 32) resolved.rows
  pub columns : All (λ table. length table.columns < 2 ^ 32) resolved.tables
  pub copies : All (IsBlockAt (length resolved.tables) (length bytes)) resolved.copies
  pub size : length bytes < 2 ^ 32

-- the rows of VALUES of each table, with their keys
abbrev pub HaveGathered : List TableInfo → List (List (List Value)) → List (List Keyed) → Type 0
HaveGathered [] values tables = tables ≡ []
HaveGathered (info ∷ infos) [] tables = ⊥
HaveGathered (info ∷ infos) (rows ∷ values) [] = ⊥
HaveGathered (info ∷ infos) (rows ∷ values) (table ∷ tables) = HasJoined info [] rows table × HaveGathered infos values tables

-- the bytes of a copy's block
abbrev pub block_of : List ℕ → CopyInfo → List ℕ
block_of bytes c = slice_range bytes c.at (c.at + c.len)

-- the block is closed, and its records join the rows of its table
abbrev pub HasCopied : List TableInfo → List ℕ → List (List Keyed) → CopyInfo → List (List Keyed) → Type 0
HasCopied infos bytes before c after =
    (c.closed ≡ true)
    × (info : TableInfo) × (slice_get infos c.table ≡ Some info)
    × (rows : List Keyed) × HasLoaded info (rows_at before c.table) (records_of (block_of bytes c)) rows
    × (after ≡ slice_set before c.table rows)

-- the copies are loaded one after another
abbrev pub HaveCopied : List TableInfo → List ℕ → List (List Keyed) → List CopyInfo → List (List Keyed) → Type 0
HaveCopied infos bytes before [] after = before ≡ after
HaveCopied infos bytes before (c ∷ cs) after = (there : List (List Keyed)) × HasCopied infos bytes before c there × HaveCopied infos bytes there cs after

abbrev pub IsClosed : Option CopyInfo → Type 0
IsClosed None = ⊤
IsClosed (Some c) = c.closed ≡ true

abbrev pub IsOpen : Option CopyInfo → Type 0
IsOpen None = ⊥
IsOpen (Some c) = c.closed ≡ false

-- the tables have the rows of VALUES and of all copies, and the journal's block is closed
abbrev pub IsOpening : Resolved → List ℕ → List (List Keyed) → Type 0
IsOpening resolved bytes tables =
    (gathered : List (List Keyed)) × HaveGathered resolved.tables resolved.rows gathered
    × HaveCopied resolved.tables bytes gathered resolved.copies tables
    × IsClosed resolved.journal

-- a fault of rows with the number of their table
abbrev pub in_table : ℕ → CopyFault → OpeningFault
in_table t (copy.Field r c) = fault.Field t r c
in_table t (copy.Width r) = fault.Width t r
in_table t (copy.Duplicate r) = fault.Duplicate t r
in_table t copy.NoMemory = fault.NoMemory

-- the fault of the first table whose rows of VALUES can't be loaded
abbrev pub TellsOfTables : Resolved → OpeningFault → Type 0
TellsOfTables resolved f =
    (front : List TableInfo) × (info : TableInfo) × (rest : List TableInfo) × (rows : List (List Value)) × (there : List (List Keyed)) × (why : CopyFault)
    × (resolved.tables ≡ front ++ info ∷ rest)
    × HaveGathered front resolved.rows there
    × (slice_get resolved.rows (length front) ≡ Some rows)
    × TellsOfValues info rows why
    × (f ≡ in_table (length front) why)

-- why a copy can't be loaded: its block is open, or it is closed and a record of it is bad
abbrev pub TellsOfCopy : List TableInfo → List ℕ → List (List Keyed) → CopyInfo → OpeningFault → Type 0
TellsOfCopy infos bytes there c f =
    ((c.closed ≡ false) × (f ≡ fault.OpenBlock))
    ⊎ ((c.closed ≡ true)
    × (info : TableInfo) × (slice_get infos c.table ≡ Some info)
    × (why : CopyFault) × IsFirstBad info (rows_at there c.table) (records_of (block_of bytes c)) why
    × (f ≡ in_table c.table why))

-- the fault of the first copy that can't be loaded, after the rows of VALUES are
abbrev pub TellsOfCopies : Resolved → List ℕ → OpeningFault → Type 0
TellsOfCopies resolved bytes f =
    (gathered : List (List Keyed)) × HaveGathered resolved.tables resolved.rows gathered
    × (front : List CopyInfo) × (c : CopyInfo) × (rest : List CopyInfo) × (there : List (List Keyed))
    × (resolved.copies ≡ front ++ c ∷ rest)
    × HaveCopied resolved.tables bytes gathered front there
    × TellsOfCopy resolved.tables bytes there c f

-- all copies are loaded, but the journal's block is open
abbrev pub TellsOfJournal : Resolved → List ℕ → OpeningFault → Type 0
TellsOfJournal resolved bytes f =
    (gathered : List (List Keyed)) × HaveGathered resolved.tables resolved.rows gathered
    × (tables : List (List Keyed)) × HaveCopied resolved.tables bytes gathered resolved.copies tables
    × IsOpen resolved.journal
    × (f ≡ fault.OpenBlock)

-- why a script has no opening database: its VALUES, else a copy, else its journal
abbrev pub HasNoOpening : Resolved → List ℕ → OpeningFault → Type 0
HasNoOpening resolved bytes f = TellsOfTables resolved f ⊎ TellsOfCopies resolved bytes f ⊎ TellsOfJournal resolved bytes f
