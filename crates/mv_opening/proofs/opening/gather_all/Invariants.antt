use Rattle.std.proofs.Common.{take}
use Rattle.mv_opening.specs.Opening.{HaveGathered}
use Rattle.mv_opening.proofs.opening.gather_all.Given as goal

abbrev pub invariant-loop-place : goal.invariant-loop-place
invariant-loop-place l = HaveGathered (take l.place l.resolved.tables) l.resolved.rows l.tables
