use Rattle.std.proofs.Common.{◌≡◌, ◌++◌, drop}
use Rattle.mv_journal_tests.proofs.repairs.copies.Given as goal

abbrev pub invariant-loop-commit : goal.invariant-loop-commit
invariant-loop-commit l = l.copies ++ drop l.commit-index l.commits ≡ l.fn.commits
