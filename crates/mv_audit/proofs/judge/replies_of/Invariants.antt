use Rattle.std.proofs.Common.{◌≡◌, ◌++◌, drop}
use Rattle.mv_audit.specs.Schedules.{replies_in}
use Rattle.mv_audit.proofs.judge.replies_of.Given as goal

abbrev pub invariant-loop-call : goal.invariant-loop-call
invariant-loop-call l = l.replies ++ replies_in (drop l.call-index l.calls) ≡ replies_in l.calls
