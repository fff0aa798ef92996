-- Which row without a parent is told of a database. This project's own.
use Rattle.std.specs.Prelude.{◌≡◌, ⊤, List, [], Some, Result, Ok, Err, slice_get}
use Rattle.mv_values.specs.References.{Orphan}
use Rattle.mv_opening.specs.declared.fault.ParentFault.{ParentFault}
use Rattle.mv_opening.specs.declared.fault.ParentFault.TheVariants.{Missing, NoMemory}

-- the fault is the first of these
abbrev pub TellsOrphan : List Orphan → ParentFault → Type 0
TellsOrphan all (Missing t r c) = slice_get all 0 ≡ Some (record { table = t; row = r; column = c })
TellsOrphan all NoMemory = ⊤

-- there are none, or the first is told, unless memory ran out
abbrev pub TellsOrphans : List Orphan → Result (Unit {0}) ParentFault → Type 0
TellsOrphans all (Ok x) = all ≡ []
TellsOrphans all (Err fault) = TellsOrphan all fault
