use Rattle.std.proofs.Common.{◌≡◌, ◌++◌, drop}
use Rattle.std.specs.List.{flat_map}
use Rattle.mv_names.specs.Faults as meant
use Rattle.mv_names.proofs.items.check_references.Given as goal

abbrev pub invariant-loop-column : goal.invariant-loop-column
invariant-loop-column l =
    l.faults ++ flat_map (meant.column_reference l.tables) (drop l.column-index l.columns) ≡ l.fn.faults ++ flat_map (meant.column_reference l.tables) l.columns
