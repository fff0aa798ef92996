use Rattle.mv_script.specs.Scripts.{IsCompiledScript}
use Rattle.mv_journal_tests.proofs.repairs.make_events.Given as goal

abbrev pub invariant-loop-event : goal.invariant-loop-event
invariant-loop-event l = IsCompiledScript l.core.book.script
