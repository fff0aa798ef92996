use Rattle.std.proofs.Common.{◌≤◌, ◌-◌, length}
use Rattle.mv_exec.specs.Env.{AreNone}
use Rattle.mv_exec.proofs.variables.nothing_kept.Given as goal

abbrev pub invariant-loop-kept : goal.invariant-loop-kept
invariant-loop-kept l = record {
  none : AreNone (length l.kept.items) l.kept.items;
  few : length l.kept.items ≤ l.len;
}

abbrev pub decreases-loop-kept : goal.decreases-loop-kept
decreases-loop-kept l = l.len - length l.kept.items
