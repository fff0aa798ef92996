use Rattle.std.proofs.Common.{◌≡◌, ◌-◌, length}
use Rattle.mv_audit.specs.Comparing.{IsAlong}
use Rattle.mv_audit.proofs.walk.pass.Given as goal

abbrev pub invariant-loop-walk : goal.invariant-loop-walk
invariant-loop-walk l = record {
  along : IsAlong l.runs l.walk;
  flags : l.walk.flags ≡ l.fn.walk.flags;
}

abbrev pub decreases-loop-walk : goal.decreases-loop-walk
decreases-loop-walk l = length l.runs.old.paths.now - l.walk.at
