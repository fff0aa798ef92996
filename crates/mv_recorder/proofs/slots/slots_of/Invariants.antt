use Rattle.std.proofs.Common.{◌≡◌, ◌++◌, drop}
use Rattle.mv_recorded.specs.Effects.{slots_behind}
use Rattle.mv_recorder.proofs.slots.slots_of.Given as goal

abbrev pub invariant-loop-x : goal.invariant-loop-x
invariant-loop-x l = l.slots ++ slots_behind l.env (drop l.x-index l.variables) ≡ slots_behind l.env l.variables
