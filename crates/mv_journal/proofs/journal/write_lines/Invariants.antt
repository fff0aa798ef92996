use Rattle.std.proofs.Common.{◌≡◌, ◌++◌, take}
use Rattle.std.specs.Prelude.{All}
use Rattle.mv_journal.specs.Events.{events_text, IsInRange}
use Rattle.mv_journal.proofs.journal.write_lines.Given as goal

abbrev pub invariant-loop-event : goal.invariant-loop-event
invariant-loop-event l = (l.text ≡ l.fn.text ++ events_text (take l.event-index l.events)) × All IsInRange (take l.event-index l.events)
