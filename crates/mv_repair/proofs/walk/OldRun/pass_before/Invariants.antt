use Rattle.std.proofs.Common.{length, ◌-◌, ◌≤◌}
use Rattle.mv_repair.specs.Walking.{HasPassed}
use Rattle.mv_repair.proofs.walk.OldRun.pass_before.Given as goal

abbrev pub invariant-loop-self : goal.invariant-loop-self
invariant-loop-self l = record { passed : HasPassed l.past l.fn.self l.path l.self; on : l.fn.self.at ≤ l.self.at; within : l.self.known ≤ length l.self.others }

abbrev pub decreases-loop-self : goal.decreases-loop-self
decreases-loop-self l = length l.past - l.self.at
