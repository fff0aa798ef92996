use Rattle.std.proofs.Common.{◌≡◌}
use Rattle.mv_overlap.proofs.commits.end_all.Given as goal

abbrev pub invariant-loop-call : goal.invariant-loop-call
invariant-loop-call l = l.core.book.script ≡ l.fn.core.book.script
