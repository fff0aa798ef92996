use Rattle.std.proofs.Common.{◌≡◌, ◌≤◌, ◌-◌, length}
use Rattle.mv_effect.specs.Looking.{IsSameView}
use Rattle.mv_graph.specs.Nodes.{meaning_of}
use Rattle.mv_exec.specs.Running.{IsTaskOn}
use Rattle.mv_unit_tests.proofs.walks.walk.Given as goal

abbrev pub invariant-loop-alloc : goal.invariant-loop-alloc
invariant-loop-alloc g l = record {
  on : IsTaskOn l.graph l.call (g.V.View.sight l.fn.view).database l.task;
  past : l.task.log.past ≡ (meaning_of l.graph l.call (g.V.View.sight l.fn.view).database).records;
  rises : l.task.log.kept ≤ length l.task.log.records;
  same : IsSameView (g.V.View.sight l.fn.view) (g.V.View.sight l.view);
}

abbrev pub decreases-loop-alloc : goal.decreases-loop-alloc
decreases-loop-alloc g l = length l.task.log.past - length l.task.log.records
