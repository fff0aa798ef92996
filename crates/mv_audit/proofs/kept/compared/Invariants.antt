use Rattle.std.proofs.Common.{◌≤◌, ◌-◌, length}
use Rattle.mv_audit.specs.Comparing.{IsAlong}
use Rattle.mv_audit.proofs.kept.compared.Given as goal

abbrev pub invariant-loop-walk : goal.invariant-loop-walk
invariant-loop-walk l = record {
  along : IsAlong l.runs l.walk;
  few : length l.walk.flags ≤ length l.runs.new.records.now;
}

abbrev pub decreases-loop-walk : goal.decreases-loop-walk
decreases-loop-walk l = length l.runs.new.records.now - length l.walk.flags
