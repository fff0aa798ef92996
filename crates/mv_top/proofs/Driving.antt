-- The fault of a list of events is the refusal of a program's journal.
use Rattle.std.proofs.Common.{◌≡◌, ℕ, List, Some, Err, refl, sym, subst}
use Rattle.mv_values.specs.declared.calls.Options.{Options}
use Rattle.mv_catalog.specs.declared.resolved.Program.{Program}
use Rattle.mv_journal.specs.declared.event.Event.{Event}
use Rattle.mv_journal.specs.declared.fault.LineFault.{LineFault}
use Rattle.mv_journal.specs.declared.fault.LineFault.TheVariants as fault
use Rattle.mv_journal.specs.Lines.{TellsFault}
use Rattle.mv_lawful.specs.declared.fault.Wrong.TheVariants as wrong
use Rattle.mv_lawful.specs.Batch.{Batch}
use Rattle.mv_lawful.specs.Lawful.{wrong_with}
use Rattle.mv_core.specs.declared.drive.DriveFault.{DriveFault}
use Rattle.mv_core.specs.declared.drive.DriveFault.TheVariants as drive
use Rattle.mv_core.specs.Drives.{HasReplayed}
use Rattle.mv_top.specs.declared.refusal.NoText.{NoText}
use Rattle.mv_top.specs.declared.refusal.NoText.TheVariants.{Refused, NoMemory}
use Rattle.mv_report.specs.History.{batch_of as whole_batch}
use Rattle.mv_top.specs.Journals.{journal_lines, IsJournalOf, RefusesJournal, line, unlawful}
use Rattle.mv_top.specs.Refusing.{of_line, of_drive, TellsWrong, TellsJournal}

pub fault_told : (w : Batch) (es : List Event) (f : DriveFault) → HasReplayed w es (Err f) → TellsWrong w es (of_drive f)
fault_told w es (drive.Refused n fault) is = (wrong.Refused n fault, is, refl)
fault_told w es (drive.Open c) is = (wrong.Open c, is, refl)
fault_told w es drive.NoMemory is = tt

pub line_told : (options : Options) (bytes : List ℕ) (p : Program) (f : LineFault) → TellsFault (journal_lines bytes p) f → TellsJournal options bytes p (of_line f)
line_told options bytes p (fault.Line n) bad = line n bad
line_told options bytes p fault.NoMemory bad = tt

pub journal_told : (options : Options) (bytes : List ℕ) (p : Program) (w : Batch) (es : List Event) (f : NoText) → w ≡ whole_batch p options → IsJournalOf bytes p es → TellsWrong w es f → TellsJournal options bytes p f
journal_told options bytes p w es (Refused r) same are told = subst (RefusesJournal options bytes p) (sym told.2) (unlawful es told.0 are (subst (λ (v : Batch). wrong_with v es ≡ Some told.0) same told.1))
journal_told options bytes p w es NoMemory same are told = tt
