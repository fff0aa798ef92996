use Rattle.std.proofs.Common.{length}
use Rattle.mv_exec.proofs.around.+are_turns.Given as goal

abbrev pub decreases-are_turns : goal.decreases-are_turns
decreases-are_turns l = length l.frames.now
