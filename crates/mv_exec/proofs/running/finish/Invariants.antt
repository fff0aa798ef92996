use Rattle.std.proofs.Common.{[]}
use Rattle.mv_effect.specs.Looking.{IsSameView, WasNeverStale}
use Rattle.mv_exec.specs.Running.{IsRunningOn, IsSameCall, IsSameCallOn, HasRunTo, count_left}
use Rattle.mv_exec.proofs.running.finish.Given as goal

abbrev pub invariant-loop-alloc : goal.invariant-loop-alloc
invariant-loop-alloc g l = record {
  running : IsRunningOn l.graph (g.V.View.sight l.fn.view).database l.task;
  call : IsSameCall l.graph l.fn.task l.task;
  goes_on : IsSameCallOn l.graph (g.V.View.sight l.fn.view).database l.fn.task l.task;
  ran : HasRunTo l.fn.task l.task [] (g.V.View.sight l.fn.view) (g.V.View.sight l.view);
  same : IsSameView (g.V.View.sight l.fn.view) (g.V.View.sight l.view);
  never : WasNeverStale (g.V.View.sight l.fn.view) (g.V.View.sight l.view);
}

abbrev pub decreases-loop-alloc : goal.decreases-loop-alloc
decreases-loop-alloc g l = count_left l.graph (g.V.View.sight l.fn.view).database l.task
