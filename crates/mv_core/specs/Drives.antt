-- Defines the result of a list of events. This project's own.
use Rattle.std.specs.Prelude.{◌≡◌, ℕ, ◌-◌, Bool, not, List, [], ◌++◌, Some, None, Result, Ok, Err, length, take}
use Rattle.mv_journal.specs.declared.event.Event.{Event}
use Rattle.mv_journal.specs.declared.event.Event.TheVariants.{A, X}
use Rattle.mv_journal.specs.declared.outcome.Outcome.{Outcome}
use Rattle.mv_view.specs.declared.view.Refused.{Refused as ViewRefused}
use Rattle.mv_view.specs.declared.view.Refused.TheVariants as view
use Rattle.mv_lawful.specs.declared.fault.EventFault.TheVariants.{Stale, Rounds}
use Rattle.mv_lawful.specs.declared.fault.Wrong.TheVariants as wrong
use Rattle.mv_lawful.specs.Batch.{Batch}
use Rattle.mv_lawful.specs.Lawful.{refusal, unless, reach, wrong_from, wrong_with, AllAllowed, Lawful}
use Rattle.mv_lawful.specs.Outcomes.{in_turn, without_collections, outcome_of}
use Rattle.mv_core.specs.declared.drive.EventRefusal.{EventRefusal}
use Rattle.mv_core.specs.declared.drive.EventRefusal.TheVariants.{Refused, NoMemory}
use Rattle.mv_core.specs.declared.drive.DriveFault.{DriveFault}
use Rattle.mv_core.specs.declared.drive.DriveFault.TheVariants as fault
use Rattle.mv_core.specs.Calls.{IsLiveCall}
use Rattle.mv_core.specs.Books.{Booked, batch_in, Made, IsSame}

-- Events, one after another

-- these events were allowed, and were made
pub record HasMade (es : List Event) (old new : Booked) : Type 0 where
  pub allowed : AllAllowed (batch_in old) old.schedule es
  pub schedule : new.schedule ≡ reach (batch_in old) old.schedule es
  pub journal : new.journal ≡ old.journal ++ es
  pub script : new.script ≡ old.script

-- the calls were made in turn, with collections between events
pub record HasTurned (old new : Booked) : Type 0 where
  pub events : List Event
  pub turns : without_collections events ≡ in_turn (batch_in old).read_only (length old.script.calls)
  pub made : HasMade events old new

-- the refusal of an event whose view refuses
abbrev pub of_view : ViewRefused → EventRefusal
of_view view.NoMemory = NoMemory
of_view (view.Stale start low) = Refused Stale

-- an event was made exactly if the law of journals allows it; otherwise nothing changed, and the refusal is the law's
abbrev pub HasTaken : Event → Booked → Booked → Result (Unit {0}) EventRefusal → Type 0
HasTaken e old new (Ok x) = Made e old new
HasTaken e old new (Err (Refused f)) = (refusal (batch_in old) old.schedule e ≡ Some f) × HasMade [] old new
HasTaken e old new (Err NoMemory) = HasMade [] old new

-- the same of an event on the line of this number
abbrev pub TakesLine : Event → ℕ → Booked → Booked → Result (Unit {0}) DriveFault → Type 0
TakesLine e n old new (Ok x) = Made e old new
TakesLine e n old new (Err (fault.Refused m f)) = (m ≡ n) × (refusal (batch_in old) old.schedule e ≡ Some f) × HasMade [] old new
TakesLine e n old new (Err (fault.Open c)) = ⊥
TakesLine e n old new (Err fault.NoMemory) = HasMade [] old new

-- whether a live call that is hit may be repaired once more; or its repair is refused, in a step of its own and in that of
-- its commit
abbrev pub TellsRound : ℕ → Result Bool EventRefusal → Booked → Booked → Type 0
TellsRound c (Ok more) old new = IsSame old new × IsLiveCall old.schedule c × (refusal (batch_in old) old.schedule (A c) ≡ unless more Rounds None) × (refusal (batch_in old) old.schedule (X c) ≡ unless (not more) Rounds None)
TellsRound c (Err r) old new = HasTaken (A c) old new (Err r) × HasTaken (X c) old new (Err r)

-- the fault of an event with this number
abbrev pub fault_at : ℕ → EventRefusal → DriveFault
fault_at n (Refused f) = fault.Refused n f
fault_at n NoMemory = fault.NoMemory

-- the first of the events were made, and the others not
abbrev pub HasMadeFront : List Event → Booked → Booked → Type 0
HasMadeFront es old new = (front rest : List Event) × (es ≡ front ++ rest) × HasMade front old new

-- this is their first fault, and all events before it were made
abbrev pub Stops : List Event → Booked → Booked → DriveFault → Type 0
Stops es old new (fault.Refused n f) = (wrong_from (batch_in old) 1 old.schedule es ≡ Some (wrong.Refused n f)) × HasMade (take (n - 1) es) old new
Stops es old new (fault.Open c) = (wrong_from (batch_in old) 1 old.schedule es ≡ Some (wrong.Open c)) × HasMade es old new
Stops es old new fault.NoMemory = HasMadeFront es old new

-- Ok exactly if they have no fault, and then all were made; otherwise the first fault
abbrev pub Driven : List Event → Booked → Booked → Result (Unit {0}) DriveFault → Type 0
Driven es old new (Ok x) = (wrong_from (batch_in old) 1 old.schedule es ≡ None) × HasMade es old new
Driven es old new (Err f) = Stops es old new f

-- Ok exactly for a lawful journal, with its outcome; otherwise its first fault
abbrev pub HasReplayed : Batch → List Event → Result Outcome DriveFault → Type 0
HasReplayed w es (Ok o) = Lawful w es × (o ≡ outcome_of w es)
HasReplayed w es (Err (fault.Refused n f)) = wrong_with w es ≡ Some (wrong.Refused n f)
HasReplayed w es (Err (fault.Open c)) = wrong_with w es ≡ Some (wrong.Open c)
HasReplayed w es (Err fault.NoMemory) = Unit {0}
