use Rattle.std.proofs.Common.{◌≡◌, ◌++◌, drop}
use Rattle.std.specs.List.{flat_map}
use Rattle.mv_names.specs.Faults as meant
use Rattle.mv_names.proofs.check.check_copies.Given as goal

abbrev pub invariant-loop-copy : goal.invariant-loop-copy
invariant-loop-copy l = l.faults ++ flat_map (meant.copy l.tables) (drop l.copy-index l.copies) ≡ l.fn.faults ++ flat_map (meant.copy l.tables) l.copies
