-- What `why` writes. This project's own.
use Rattle.std.specs.Prelude.{◌≡◌, ℕ, List, Option, Some}
use Rattle.std.specs.Option.{ForSome}
use Rattle.mv_edge.specs.Edge.{Writes}
use Rattle.mv_values.specs.declared.calls.Options.{Options}
use Rattle.mv_catalog.specs.declared.resolved.Program.{Program}
use Rattle.mv_journal.specs.declared.event.Event.{Event}
use Rattle.mv_accept.specs.Accepting.{Accepts}
use Rattle.mv_explain.specs.Text.{why_text}
use Rattle.mv_report.specs.History.{batch_of}
use Rattle.mv_words.specs.declared.command.Command.TheVariants.{Why}
use Rattle.mv_words.specs.Words.{command_of}
use Rattle.mv_top.specs.declared.status.Status.{Status}
use Rattle.mv_top.specs.declared.status.Status.TheVariants.{Done}
use Rattle.mv_top.specs.Journals.{HasLawfulJournal}

-- the lines of the repairs of the script's own journal, which is lawful
pub record IsWhyText (options : Options) (bytes : List ℕ) (p : Program) (answer : List ℕ) : Type 0 where
  pub events : List Event
  pub is : HasLawfulJournal options bytes p events
  pub text_is : answer ≡ why_text p.resolved.tables (batch_of p options) events

-- they are these lines for the program of a script
abbrev pub IsWhyFor : Options → List ℕ → List ℕ → Type 0
IsWhyFor options script answer = (program : Program) × Accepts script program × IsWhyText options script program answer

-- CAUSES: with Done `why` has written them. A repair has a line for each record that isn't kept, in order, with the first
-- point of the rule that the record fails
abbrev pub IsExplained : List (List ℕ) → Option (List ℕ) → Option (List ℕ) → Option (List ℕ) → Status → Type 0
IsExplained words left old new status =
    (options : Options) → command_of words ≡ Some (Why options) → status ≡ Done → ForSome left (λ script. (answer : List ℕ) × IsWhyFor options script answer × Writes old new answer)
