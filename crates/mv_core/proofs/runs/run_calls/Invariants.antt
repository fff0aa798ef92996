use Rattle.std.proofs.Common.{◌-◌, length}
use Rattle.mv_core.proofs.Turning.{IsTurned}
use Rattle.mv_core.proofs.runs.run_calls.Given as goal

abbrev pub invariant-loop-call : goal.invariant-loop-call
invariant-loop-call l = IsTurned l.fn.core.book l.core.book

abbrev pub decreases-loop-call : goal.decreases-loop-call
decreases-loop-call l = length l.core.book.script.calls - length l.core.book.schedule.calls
