-- Errors that tell why there is no text.
use Rattle.std.specs.Prelude.{◌≡◌, ℕ, List, Some}
use Rattle.mv_values.specs.declared.calls.Options.{Options}
use Rattle.mv_catalog.specs.declared.resolved.Program.{Program}
use Rattle.mv_accept.specs.declared.refusal.ScriptRefusal.{ScriptRefusal}
use Rattle.mv_accept.specs.Accepting.{Refuses}
use Rattle.mv_accept.specs.declared.accept.NotAccepted.{NotAccepted}
use Rattle.mv_accept.specs.declared.accept.NotAccepted.TheVariants as accept
use Rattle.mv_journal.specs.declared.event.Event.{Event}
use Rattle.mv_journal.specs.declared.fault.LineFault.{LineFault}
use Rattle.mv_journal.specs.declared.fault.LineFault.TheVariants as fault
use Rattle.mv_lawful.specs.declared.fault.Wrong.{Wrong}
use Rattle.mv_lawful.specs.Batch.{Batch}
use Rattle.mv_lawful.specs.Lawful.{wrong_with}
use Rattle.mv_core.specs.declared.drive.DriveFault.{DriveFault}
use Rattle.mv_core.specs.declared.drive.DriveFault.TheVariants as drive
use Rattle.mv_top.specs.declared.refusal.Refusal.{Refusal}
use Rattle.mv_top.specs.declared.refusal.Refusal.TheVariants as why
use Rattle.mv_top.specs.declared.refusal.NoText.{NoText}
use Rattle.mv_top.specs.declared.refusal.NoText.TheVariants.{Refused, NoMemory}
use Rattle.mv_top.specs.Journals.{refusal_of, RefusesJournal}

-- the refusal has this cause, unless memory ran out
abbrev pub Causes : (Refusal → Type 0) → NoText → Type 0
Causes Cause (Refused refusal) = Cause refusal
Causes Cause NoMemory = Unit {0}

-- it is this refusal, unless memory ran out
abbrev pub RefusesAs : Refusal → NoText → Type 0
RefusesAs refusal (Refused told) = told ≡ refusal
RefusesAs refusal NoMemory = Unit {0}

-- it is the refusal of this script
abbrev pub IsOfScript : List ℕ → Refusal → Type 0
IsOfScript script refusal = (it : ScriptRefusal) × Refuses script it × (refusal ≡ why.Script it)

abbrev pub of_accept : NotAccepted → NoText
of_accept (accept.Refused refusal) = Refused (why.Script refusal)
of_accept accept.NoMemory = NoMemory

abbrev pub of_line : LineFault → NoText
of_line (fault.Line n) = Refused (why.Line n)
of_line fault.NoMemory = NoMemory

abbrev pub of_drive : DriveFault → NoText
of_drive (drive.Refused n fault) = Refused (why.Event n fault)
of_drive (drive.Open call) = Refused (why.Open call)
of_drive drive.NoMemory = NoMemory

-- it is the refusal of the first fault of the events
abbrev pub HasFault : Batch → List Event → Refusal → Type 0
HasFault w events refusal = (wrong : Wrong) × (wrong_with w events ≡ Some wrong) × (refusal ≡ refusal_of wrong)

abbrev pub TellsWrong : Batch → List Event → NoText → Type 0
TellsWrong w events f = Causes (HasFault w events) f

abbrev pub TellsJournal : Options → List ℕ → Program → NoText → Type 0
TellsJournal options bytes p f = Causes (RefusesJournal options bytes p) f
