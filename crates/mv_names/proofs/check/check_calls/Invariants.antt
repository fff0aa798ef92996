use Rattle.std.proofs.Common.{◌≡◌, ◌++◌, drop}
use Rattle.std.specs.List.{flat_map}
use Rattle.mv_names.specs.Faults as meant
use Rattle.mv_names.proofs.check.check_calls.Given as goal

abbrev pub invariant-loop-call : goal.invariant-loop-call
invariant-loop-call l = l.faults ++ flat_map (meant.call l.procedures) (drop l.call-index l.calls) ≡ l.fn.faults ++ flat_map (meant.call l.procedures) l.calls
