-- The law of scripts of one piece. This project's own.
use Rattle.std.specs.Prelude.{ℕ, List}
use Rattle.mv_values.specs.declared.schema.TableInfo.{TableInfo}
use Rattle.mv_values.specs.Tables.{Tables}
use Rattle.mv_record.specs.Databases.{IsDatabaseOf}
use Rattle.mv_lawful.specs.Batch.{table_at, ReadersKeepTables}
use Rattle.mv_script.specs.declared.script.CompiledScript.{CompiledScript}
use Rattle.mv_script.specs.Scripts.{IsScriptOf, batch_of}

-- each call leads from a database of the script's tables to one of these tables
abbrev pub CallsKeepDatabases : Type 0
CallsKeepDatabases = (tables : List TableInfo) (s : CompiledScript) (c : ℕ) (db : Tables) → IsScriptOf tables s → IsDatabaseOf tables db → IsDatabaseOf tables ((batch_of s).run c db).tables

-- after any calls there is a database of the script's tables
abbrev pub TablesAreDatabases : Type 0
TablesAreDatabases = (tables : List TableInfo) (s : CompiledScript) (order : List ℕ) (n : ℕ) → IsScriptOf tables s → IsDatabaseOf tables (table_at (batch_of s) order n)

-- calls of READ ONLY procedures leave each database as it is
abbrev pub ReadersAreQuiet : Type 0
ReadersAreQuiet = (tables : List TableInfo) (s : CompiledScript) → IsScriptOf tables s → ReadersKeepTables (batch_of s)
