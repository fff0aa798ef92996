-- What a text tells of its journal. This project's own.
use Rattle.std.specs.Prelude.{◌≡◌, ◌≤◌, ℕ, List, map, length}
use Rattle.mv_values.specs.declared.calls.Options.{Options}
use Rattle.mv_catalog.specs.declared.resolved.Program.{Program}
use Rattle.mv_accept.specs.Accepting.{most_calls}
use Rattle.mv_journal.specs.declared.event.Event.{Event}
use Rattle.mv_journal.specs.Events.{event_text}
use Rattle.mv_lawful.specs.Lawful.{Lawful}
use Rattle.mv_lawful.specs.Outcomes.{shown}
use Rattle.mv_report.specs.JournalLines.{journal_lines_in}
use Rattle.mv_report.specs.History.{batch_of, text}

-- the bytes are the text of this lawful journal, for some program and options
pub record IsTextOfJournal (bytes : List ℕ) (journal : List Event) : Type 0 where
  pub program : Program
  pub options : Options
  pub few : length program.resolved.calls ≤ most_calls
  pub lawful : Lawful (batch_of program options) journal
  pub text_is : bytes ≡ text program options journal

-- a text fixes its journal, except for the events that have no line
abbrev pub TextFixesJournal : Type 0
TextFixesJournal = (bytes : List ℕ) (one other : List Event) → IsTextOfJournal bytes one → IsTextOfJournal bytes other → shown one ≡ shown other

-- a text has a line for each of these events, and no other line where its journal is looked for
abbrev pub TextHasItsJournal : Type 0
TextHasItsJournal = (bytes : List ℕ) (journal : List Event) → IsTextOfJournal bytes journal → journal_lines_in bytes ≡ map event_text (shown journal)
