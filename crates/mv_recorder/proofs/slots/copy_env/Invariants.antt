use Rattle.std.proofs.Common.{◌≡◌, ◌++◌, drop}
use Rattle.mv_recorder.proofs.slots.copy_env.Given as goal

abbrev pub invariant-loop-content : goal.invariant-loop-content
invariant-loop-content l = l.held ++ drop l.content-index l.env.held ≡ l.env.held
