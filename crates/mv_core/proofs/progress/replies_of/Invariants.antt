use Rattle.std.proofs.Common.{◌≡◌, ◌++◌}
use Rattle.mv_core.specs.Calls.{replies_in}
use Rattle.mv_core.proofs.progress.replies_of.Given as goal

abbrev pub invariant-loop-call : goal.invariant-loop-call
invariant-loop-call l = l.replies ++ replies_in l.call-iterator.rest.items ≡ replies_in l.fn.calls.items
