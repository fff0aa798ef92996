use Rattle.std.proofs.Common.{◌≡◌, ◌++◌, take}
use Rattle.mv_report.specs.Text.{journal_text}
use Rattle.mv_report.proofs.journal.write_journal.Given as goal

abbrev pub invariant-loop-event : goal.invariant-loop-event
invariant-loop-event l = l.text ≡ l.fn.text ++ journal_text (take l.event-index l.events)
