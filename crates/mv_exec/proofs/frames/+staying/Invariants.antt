use Rattle.std.proofs.Common.{length}
use Rattle.mv_exec.proofs.frames.+staying.Given as goal

abbrev pub decreases-staying : goal.decreases-staying
decreases-staying l = length l.frames.now
