use Rattle.std.proofs.Common.{◌≡◌, ◌++◌, drop}
use Rattle.std.specs.List.{flat_map}
use Rattle.mv_names.specs.Faults as meant
use Rattle.mv_names.proofs.check.check_procedures.Given as goal

abbrev pub invariant-loop-procedure : goal.invariant-loop-procedure
invariant-loop-procedure l = l.faults ++ flat_map (meant.procedure l.tables) (drop l.procedure-index l.procedures) ≡ l.fn.faults ++ flat_map (meant.procedure l.tables) l.procedures
