use Rattle.std.proofs.Common.{[]}
use Rattle.mv_effect.specs.Looking.{IsSameView, WasNeverStale}
use Rattle.mv_exec.specs.Running.{IsSameCall, count_left}
use Rattle.mv_repair.specs.Repairing.{changes_since, HasQueried}
use Rattle.mv_repair.specs.Walking.{IsUnderway}
use Rattle.mv_repair.proofs.repair.repair.Given as goal

abbrev pub invariant-loop-alloc : goal.invariant-loop-alloc
invariant-loop-alloc g l = record {
  underway : IsUnderway l.graph (changes_since l.since) (g.V.View.sight l.fn.view).database l.fn.task.log.records l.task l.old l.new;
  call : IsSameCall l.graph l.fn.task l.task;
  queried : HasQueried l.fn.task.log.records l.task.log.records (changes_since l.since) [] (g.V.View.sight l.fn.view) (g.V.View.sight l.view);
  same : IsSameView (g.V.View.sight l.fn.view) (g.V.View.sight l.view);
  never : WasNeverStale (g.V.View.sight l.fn.view) (g.V.View.sight l.view);
}

abbrev pub decreases-loop-alloc : goal.decreases-loop-alloc
decreases-loop-alloc g l = count_left l.graph (g.V.View.sight l.fn.view).database l.task
