use Rattle.std.proofs.Common.{◌≡◌}
use Rattle.mv_overlap.proofs.commits.play.Given as goal

abbrev pub invariant-loop : goal.invariant-loop
invariant-loop l = l.core.book.script ≡ l.fn.core.book.script
