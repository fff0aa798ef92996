-- What `audit` writes. This project's own.
use Rattle.std.specs.Prelude.{◌≡◌, ◌≤◌, ◌↔◌, ◌++◌, ℕ, List, Option, Some, length, codes, decimal}
use Rattle.std.specs.Option.{ForSome}
use Rattle.mv_edge.specs.Edge.{Writes}
use Rattle.mv_values.specs.declared.calls.Options.{Options}
use Rattle.mv_values.specs.Texts.{line}
use Rattle.mv_catalog.specs.declared.resolved.Program.{Program}
use Rattle.mv_accept.specs.Accepting.{most_calls, Accepts}
use Rattle.mv_journal.specs.declared.event.Event.{Event}
use Rattle.mv_lawful.specs.Lawful.{Lawful}
use Rattle.mv_audit.specs.declared.verdict.Verdict.{Verdict}
use Rattle.mv_audit.specs.declared.verdict.Verdict.TheVariants.{Yes, NoJournal, Line}
use Rattle.mv_audit.specs.Verdicts.{audit_verdict}
use Rattle.mv_report.specs.History.{batch_of, text, IsRunText}
use Rattle.mv_words.specs.declared.command.Command.TheVariants.{Audit}
use Rattle.mv_words.specs.Words.{command_of}
use Rattle.mv_top.specs.declared.status.Status.{Status}
use Rattle.mv_top.specs.declared.status.Status.TheVariants.{Done}
use Rattle.mv_top.specs.Parts.{Parts, parts_of, report_in}

abbrev pub verdict_line : Verdict → List ℕ
verdict_line Yes = codes "audit yes"
verdict_line NoJournal = codes "audit no journal"
verdict_line (Line n) = codes "audit no line " ++ decimal n

-- the line of the verdict on the report in these bytes
abbrev pub verdict_text : ℕ → List ℕ → Program → List ℕ
verdict_text rounds bytes p = line (verdict_line (audit_verdict p rounds (report_in bytes)))

-- it is the line of the verdict on the report, by the program of the script
pub record IsAudit (rounds : ℕ) (input answer : List ℕ) : Type 0 where
  pub parts : Parts
  pub program : Program
  pub input_is : parts_of input ≡ Some parts
  pub accepted : Accepts parts.script program
  pub answer_is : answer ≡ line (verdict_line (audit_verdict program rounds parts.report))

-- AUDIT: with Done `audit` has written the line of the verdict
abbrev pub IsAudited : List (List ℕ) → Option (List ℕ) → Option (List ℕ) → Option (List ℕ) → Status → Type 0
IsAudited words left old new status =
    (rounds : ℕ) → command_of words ≡ Some (Audit rounds) → status ≡ Done → ForSome left (λ input. (answer : List ℕ) × IsAudit rounds input answer × Writes old new answer)

-- the report is the text of a lawful journal of the program, with so many rounds and any horizon
pub record IsLawfulReport (p : Program) (rounds : ℕ) (report : List ℕ) : Type 0 where
  pub options : Options
  pub journal : List Event
  pub rounds_are : options.rounds ≡ rounds
  pub lawful : Lawful (batch_of p options) journal
  pub text_is : report ≡ text p options journal

-- such a report gets yes, and no other
abbrev pub YesIsExact : Type 0
YesIsExact = (p : Program) (rounds : ℕ) (report : List ℕ) → length p.resolved.calls ≤ most_calls → (audit_verdict p rounds report ≡ Yes) ↔ IsLawfulReport p rounds report

-- so does the text of each run, under its rounds
abbrev pub RunsGetYes : Type 0
RunsGetYes = (p : Program) (options : Options) (report : List ℕ) → length p.resolved.calls ≤ most_calls → IsRunText p options report → audit_verdict p options.rounds report ≡ Yes
