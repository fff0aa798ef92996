use Rattle.std.proofs.Common.{◌≡◌, ◌++◌, drop}
use Rattle.mv_resolve.specs.Building.{param_slots}
use Rattle.mv_resolve.proofs.build_names.add_params.Given as goal

abbrev pub invariant-loop-i : goal.invariant-loop-i
invariant-loop-i l = l.slots ++ param_slots l.i (drop l.i l.params) ≡ l.fn.slots ++ param_slots 0 l.params
