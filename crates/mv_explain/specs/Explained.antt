-- Defines the result of telling why the repairs of a journal executed the records that they did. This project's own.
use Rattle.std.specs.Prelude.{◌≡◌, ℕ, ◌+◌, true, List, ◌++◌, ◌<◌, length, Some, Result, Ok, Err}
use Rattle.std.specs.Option.{option_map}
use Rattle.mv_values.specs.declared.schema.TableInfo.{TableInfo}
use Rattle.mv_record.specs.declared.record.Record.{Record}
use Rattle.mv_changes.specs.declared.recent.Committed.{Committed}
use Rattle.mv_changes.specs.Commits.{changes_in, AreNumbered}
use Rattle.mv_journal.specs.declared.event.Event.{Event}
use Rattle.mv_journal.specs.declared.event.Event.TheVariants.{B, S, A, M, C, X, R, G}
use Rattle.mv_lawful.specs.Batch.{Batch, records_at, since}
use Rattle.mv_lawful.specs.declared.fault.Wrong.TheVariants as wrong
use Rattle.mv_lawful.specs.Lawful.{Live, refusal, wrong_from, open_call, is_stale, Lawful}
use Rattle.mv_core.specs.declared.drive.DriveFault.{DriveFault}
use Rattle.mv_core.specs.declared.drive.DriveFault.TheVariants as fault
use Rattle.mv_core.specs.Calls.{IsLive}
use Rattle.mv_core.specs.Books.{Booked, batch_in, Made}
use Rattle.mv_core.specs.Drives.{HasReplayed}
use Rattle.mv_explain.specs.Text.{event_lines, lines_from, why_text}

-- the event repairs this call
abbrev pub IsRepair : Event → ℕ → Type 0
IsRepair (A d) c = d ≡ c
IsRepair (X d) c = d ≡ c
IsRepair (B d) c = ⊥
IsRepair (S d) c = ⊥
IsRepair (M d) c = ⊥
IsRepair (C d) c = ⊥
IsRepair (R d) c = ⊥
IsRepair G c = ⊥

-- the records of a full run of a live call at its start, and the commits after that
pub record AreBefore (b : Booked) (c : ℕ) (rs : List Record) (commits : List Committed) : Type 0 where
  pub live : Live
  pub is_live : IsLive b.schedule c live
  pub number : c < length b.script.calls
  pub records : rs ≡ records_at (batch_in b) b.schedule.order live.start c
  pub changes : changes_in commits ≡ since (batch_in b) b.schedule.order live.start
  pub numbers : AreNumbered (live.start + 1) commits

-- the call isn't live, or it is stale
abbrev pub IsPast : Booked → ℕ → Type 0
IsPast b c = (l : Live) → IsLive b.schedule c l → is_stale b.schedule l ≡ true

-- the event on the line of this number was made, and its lines were added; or it is refused
abbrev pub TellsEvent : List TableInfo → Event → ℕ → Booked → Booked → List ℕ → List ℕ → Result (Unit {0}) DriveFault → Type 0
TellsEvent tables e n old new had has (Ok x) = Made e old new × (has ≡ had ++ event_lines tables (batch_in old) old.schedule e)
TellsEvent tables e n old new had has (Err (fault.Refused m f)) = (m ≡ n) × (refusal (batch_in old) old.schedule e ≡ Some f)
TellsEvent tables e n old new had has (Err (fault.Open c)) = ⊥
TellsEvent tables e n old new had has (Err fault.NoMemory) = Unit {0}

-- all events were made, and their lines were added. Only an open call may still be wrong. Or this is the first refusal
abbrev pub TellsEvents : List TableInfo → List Event → Booked → Booked → List ℕ → List ℕ → Result (Unit {0}) DriveFault → Type 0
TellsEvents tables es old new had has (Ok x) =
    (new.script ≡ old.script) × (wrong_from (batch_in old) 1 old.schedule es ≡ option_map wrong.Open (open_call (batch_in old) new.schedule)) × (has ≡ had ++ lines_from tables (batch_in old) old.schedule es)
TellsEvents tables es old new had has (Err (fault.Refused n f)) = wrong_from (batch_in old) 1 old.schedule es ≡ Some (wrong.Refused n f)
TellsEvents tables es old new had has (Err (fault.Open c)) = ⊥
TellsEvents tables es old new had has (Err fault.NoMemory) = Unit {0}

-- the text of a lawful journal; or its first fault
abbrev pub HasExplained : List TableInfo → Batch → List Event → Result (List ℕ) DriveFault → Type 0
HasExplained tables w es (Ok text) = Lawful w es × (text ≡ why_text tables w es)
HasExplained tables w es (Err f) = HasReplayed w es (Err f)
