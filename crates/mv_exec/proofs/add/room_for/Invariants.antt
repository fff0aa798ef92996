use Rattle.std.proofs.Common.{◌≡◌, max, drop}
use Rattle.mv_exec.specs.Keeping.{slot_room}
use Rattle.mv_exec.proofs.add.room_for.Given as goal

abbrev pub invariant-loop-slot : goal.invariant-loop-slot
invariant-loop-slot l = max l.most (slot_room (drop l.slot-index l.slots)) ≡ slot_room l.slots
