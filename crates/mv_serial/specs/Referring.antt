-- Parent tables whose keys have one column. This project's own.
use Rattle.std.specs.Prelude.{⊤, ℕ, Option, Some, None}
use Rattle.mv_values.specs.References.{HaveOneKey}
use Rattle.mv_values.specs.Tables.{rows_at, Tables}

-- the keys of the parent table have one column, if there is a parent table
abbrev pub IsOneKeyed : Option ℕ → Tables → Type 0
IsOneKeyed None db = ⊤
IsOneKeyed (Some parent) db = HaveOneKey (rows_at db parent)
