-- The journal of a script, its text, and why it is refused. The form of a journal and its law are this project's own.
use Rattle.std.specs.Prelude.{◌≡◌, ℕ, List, [], Option, Some, None}
use Rattle.std.specs.Str.Lines.{lines}
use Rattle.mv_values.specs.declared.calls.Options.{Options}
use Rattle.mv_catalog.specs.declared.resolved.CopyInfo.{CopyInfo}
use Rattle.mv_catalog.specs.declared.resolved.Program.{Program}
use Rattle.mv_opening.specs.Opening.{block_of}
use Rattle.mv_journal.specs.declared.event.Event.{Event}
use Rattle.mv_journal.specs.Lines.{AreEventLines, IsFirstBad}
use Rattle.mv_lawful.specs.declared.fault.Wrong.{Wrong}
use Rattle.mv_lawful.specs.declared.fault.Wrong.TheVariants as wrong
use Rattle.mv_lawful.specs.Lawful.{Lawful, wrong_with}
use Rattle.mv_top.specs.declared.refusal.Refusal.{Refusal}
use Rattle.mv_top.specs.declared.refusal.Refusal.TheVariants as why
use Rattle.mv_report.specs.History.{batch_of, text}

-- the bytes of the journal's block; a script without a JOURNAL item has none
abbrev pub block_in : List ℕ → Option CopyInfo → List ℕ
block_in bytes None = []
block_in bytes (Some block) = block_of bytes block

-- the lines of the journal
abbrev pub journal_lines : List ℕ → Program → List (List ℕ)
journal_lines bytes p = lines (block_in bytes p.resolved.journal)

-- the events of the journal, one on each line
abbrev pub IsJournalOf : List ℕ → Program → List Event → Type 0
IsJournalOf bytes p events = AreEventLines (journal_lines bytes p) events

-- these are its events, and they are lawful
pub record HasLawfulJournal (options : Options) (bytes : List ℕ) (p : Program) (events : List Event) : Type 0 where
  pub are : IsJournalOf bytes p events
  pub lawful : Lawful (batch_of p options) events

-- the text of the journal, which is lawful
pub record IsJournalText (options : Options) (bytes : List ℕ) (p : Program) (answer : List ℕ) : Type 0 where
  pub events : List Event
  pub is : HasLawfulJournal options bytes p events
  pub text_is : answer ≡ text p options events

-- the refusal of a journal's first fault
abbrev pub refusal_of : Wrong → Refusal
refusal_of (wrong.Refused n fault) = why.Event n fault
refusal_of (wrong.Open call) = why.Open call

-- why the journal is refused: a line isn't an event, or the law of journals refuses the events
pub data RefusesJournal (options : Options) (bytes : List ℕ) (p : Program) : Refusal → Type 0 where
  line : (n : ℕ) → IsFirstBad (journal_lines bytes p) n → RefusesJournal options bytes p (why.Line n)
  unlawful : (events : List Event) (w : Wrong) → IsJournalOf bytes p events → wrong_with (batch_of p options) events ≡ Some w → RefusesJournal options bytes p (refusal_of w)
