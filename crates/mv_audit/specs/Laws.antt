-- What a verdict tells. This project's own.
use Rattle.std.specs.Prelude.{◌≡◌, ℕ, List, None}
use Rattle.mv_values.specs.declared.calls.Options.{Options}
use Rattle.mv_catalog.specs.declared.resolved.Program.{Program}
use Rattle.mv_journal.specs.declared.event.Event.{Event}
use Rattle.mv_lawful.specs.Lawful.{Lawful}
use Rattle.mv_lawful.specs.Outcomes.{shown, outcome_of}
use Rattle.mv_report.specs.Shown.{IsPlain}
use Rattle.mv_report.specs.History.{batch_of, text}
use Rattle.mv_audit.specs.declared.verdict.Verdict.TheVariants.{Yes}
use Rattle.mv_audit.specs.Verdicts.{audit_verdict}

-- the report is the text of a lawful journal, each of whose events has a line
pub record IsLawfulText (p : Program) (options : Options) (report : List ℕ) : Type 0 where
  pub journal : List Event
  pub printed : shown journal ≡ journal
  pub lawful : Lawful (batch_of p options) journal
  pub text_is : report ≡ text p options journal

-- no other report gets Yes
abbrev pub YesIsLawful : Type 0
YesIsLawful = (p : Program) (rounds : ℕ) (report : List ℕ) → audit_verdict p rounds report ≡ Yes → IsLawfulText p (record { rounds = rounds; horizon = None }) report

-- the text of each lawful journal gets Yes, whatever its horizon is
abbrev pub LawfulIsYes : Type 0
LawfulIsYes =
    (p : Program) (options : Options) (journal : List Event) → Lawful (batch_of p options) journal → IsPlain (outcome_of (batch_of p options) journal)
    → audit_verdict p options.rounds (text p options journal) ≡ Yes
