use Rattle.std.proofs.Common.{◌≡◌, drop}
use Rattle.mv_recorded.specs.Effect.{with_slots}
use Rattle.mv_recorder.proofs.slots.set_slots.Given as goal

abbrev pub invariant-loop-slot : goal.invariant-loop-slot
invariant-loop-slot l = with_slots (drop l.slot-index l.slots) l.env ≡ with_slots l.slots l.fn.env
