-- Databases with the tables of a program, and programs with a valid opening database.
use Rattle.std.specs.Prelude.{◌≡◌, List, All, length}
use Rattle.std.specs.List.{AllZip}
use Rattle.mv_values.specs.declared.rows.Keyed.{Keyed}
use Rattle.mv_values.specs.declared.schema.TableInfo.{TableInfo}
use Rattle.mv_values.specs.Tables.{KeysStand}
use Rattle.mv_catalog.specs.declared.resolved.Program.{Program}
use Rattle.mv_catalog.specs.Text.{FitsText, IsRow, types_of}
use Rattle.mv_record.specs.Writes.{AreRising}

-- the row has a value for each column of the table, of its type and length
abbrev pub HasRow : TableInfo → Keyed → Type 0
HasRow table item = IsRow (types_of table) item.row

-- each row of each table does
abbrev pub AreTyped : List TableInfo → List (List Keyed) → Type 0
AreTyped tables db = AllZip (λ table rows. All (HasRow table) rows) tables db

-- a database of these tables: it has a table for each, with rising keys; each row is stored under its own values of the
-- key columns, and has the values that its table requires
pub record IsDatabaseOf (tables : List TableInfo) (db : List (List Keyed)) : Type 0 where
  pub size : length db ≡ length tables
  pub rising : AreRising db
  pub keys : KeysStand tables db
  pub rows : AreTyped tables db

-- a well-formed program whose opening database has its tables
pub record IsProgram (program : Program) : Type 0 where
  pub text : FitsText program.resolved
  pub opening : IsDatabaseOf program.resolved.tables program.opening
