use Rattle.std.proofs.Common.{length, ◌-◌}
use Rattle.mv_why.specs.Walking.{HasPassed}
use Rattle.mv_why.proofs.walk.Walk.pass.Given as goal

abbrev pub invariant-loop-self : goal.invariant-loop-self
invariant-loop-self l = HasPassed l.old l.fn.self l.path l.self

abbrev pub decreases-loop-self : goal.decreases-loop-self
decreases-loop-self l = length l.old.paths - l.self.at
