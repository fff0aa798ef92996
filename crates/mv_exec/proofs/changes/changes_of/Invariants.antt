use Rattle.std.proofs.Common.{◌≡◌, ◌++◌, map, drop}
use Rattle.mv_exec.specs.Env.{of_slot}
use Rattle.mv_exec.proofs.changes.changes_of.Given as goal

abbrev pub invariant-loop-slot : goal.invariant-loop-slot
invariant-loop-slot l = l.changes.items ++ map of_slot (drop l.slot-index l.slots) ≡ map of_slot l.slots
