-- What a program must satisfy beyond its type.
use Rattle.mv_values.specs.Tables.{KeysStand}
use Rattle.mv_catalog.specs.declared.resolved.Program.{Program}

-- each row of the opening database is stored under its own values of the key columns
abbrev pub Fits : Program → Type 0
Fits program = KeysStand program.resolved.tables program.opening
