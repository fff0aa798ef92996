use Rattle.std.proofs.Common.{◌≡◌, ◌≤◌, length}
use Rattle.mv_exec.specs.Env.{with_changed, room}
use Rattle.mv_exec.proofs.changes.set_all.Given as goal

abbrev pub invariant-loop-change : goal.invariant-loop-change
invariant-loop-change l = record {
  same : with_changed l.change-iterator.rest.items l.variables ≡ with_changed l.fn.changes.items l.fn.variables;
  room : room l.change-iterator.rest.items ≤ length l.variables.env.held;
}
