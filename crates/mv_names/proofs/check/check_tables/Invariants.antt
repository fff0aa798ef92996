use Rattle.std.proofs.Common.{◌≡◌, ◌++◌, drop}
use Rattle.std.specs.List.{flat_map}
use Rattle.mv_names.specs.Faults as meant
use Rattle.mv_names.proofs.check.check_tables.Given as goal

abbrev pub invariant-loop-table : goal.invariant-loop-table
invariant-loop-table l = l.faults ++ flat_map (meant.table l.index) (drop l.table-index l.tables) ≡ l.fn.faults ++ flat_map (meant.table l.index) l.tables
