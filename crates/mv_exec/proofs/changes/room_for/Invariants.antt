use Rattle.std.proofs.Common.{◌≡◌, max, drop}
use Rattle.mv_exec.specs.Env.{room}
use Rattle.mv_exec.proofs.changes.room_for.Given as goal

abbrev pub invariant-loop-change : goal.invariant-loop-change
invariant-loop-change l = max l.most (room (drop l.change-index l.changes)) ≡ room l.changes
