use Rattle.mv_record.specs.Databases.{IsProgram}
use Rattle.mv_journal_tests.proofs.alone.run_commits.Given as goal

abbrev pub invariant-loop-event : goal.invariant-loop-event
invariant-loop-event l = IsProgram l.program
