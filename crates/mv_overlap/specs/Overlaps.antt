-- Defines the script that is written: a lawful journal after a script. This project's own.
use Rattle.std.specs.Prelude.{◌≡◌, ℕ, List, ◌++◌, take, codes}
use Rattle.mv_values.specs.declared.calls.Options.{Options}
use Rattle.mv_catalog.specs.declared.resolved.Program.{Program}
use Rattle.mv_journal.specs.declared.event.Event.{Event}
use Rattle.mv_journal.specs.Events.{events_text}
use Rattle.mv_lawful.specs.Lawful.{Lawful}
use Rattle.mv_report.specs.History.{batch_of}

-- the block of a journal, after an empty line
abbrev pub block_of : List Event → List ℕ
block_of events = codes "\nJOURNAL <<\n" ++ events_text events ++ codes ">>\n"

-- the first bytes of the script, and after them a journal that is lawful for its program
pub record IsOverlap (bytes : List ℕ) (program : Program) (options : Options) (text : List ℕ) : Type 0 where
  pub front : ℕ
  pub events : List Event
  pub lawful : Lawful (batch_of program options) events
  pub text_is : text ≡ take front bytes ++ block_of events
