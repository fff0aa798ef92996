-- A text of `audit` is the verdict on the report of its input, and a lawful text gets yes.
use Rattle.std.proofs.Common.{◌≡◌, ℕ, Bool, true, false, cond, List, [], Option, None, Some, Err, refl, ap, sym, ◌∙◌, nat_lt, length, ◌≤◌}
use Rattle.std.specs.Prelude.{MatchResult}
use Rattle.std.specs.Option.{option_map_or}
use Rattle.mv_values.specs.declared.calls.Options.{Options}
use Rattle.mv_values.specs.Texts.{line}
use Rattle.mv_catalog.specs.declared.resolved.Program.{Program}
use Rattle.mv_accept.specs.declared.refusal.ScriptRefusal.TheVariants.{TooLong}
use Rattle.mv_accept.specs.Accepting.{most_bytes, most_calls, Accepts}
use Rattle.mv_journal.specs.declared.event.Event.{Event}
use Rattle.mv_lawful.specs.Lawful.{Lawful}
use Rattle.mv_audit.specs.declared.verdict.Verdict.TheVariants.{Yes}
use Rattle.mv_audit.specs.Verdicts.{audit_verdict}
use Rattle.mv_audit.proofs.Judging.{yes_is_lawful, lawful_is_yes}
use Rattle.mv_report.specs.History.{batch_of, text}
use Rattle.mv_words.specs.declared.command.Command.TheVariants.{Audit}
use Rattle.mv_top.specs.declared.refusal.Refusal.TheVariants.{Script}
use Rattle.mv_top.specs.declared.status.Status.{Status}
use Rattle.mv_top.specs.Parts.{Parts, parts_of, script_by}
use Rattle.mv_top.specs.Audits.{verdict_line, IsAudit, IsAudited, IsLawfulReport, YesIsExact, RunsGetYes}
use Rattle.mv_top.specs.Answers.{IsTextFor, Wrote}
use Rattle.mv_top.proofs.Headlines.{wrote_for}
use Rattle.mv_top.proofs.Texts.{is_plain}

abbrev IsOf : Program → Option Parts → Type 0
IsOf p parts = MatchResult (script_by parts) (λ script. Accepts script p) (λ refusal. ⊥)

audit_of : (rounds : ℕ) (input answer : List ℕ) (p : Program) (o : Option Parts) → parts_of input ≡ o → IsOf p o → answer ≡ line (verdict_line (audit_verdict p rounds (option_map_or (λ (parts : Parts). parts.report) o []))) → IsAudit rounds input answer
audit_of rounds input answer p None is h answered = absurd h
audit_of rounds input answer p (Some parts) is h answered = record { parts = parts; program = p; input_is = is; accepted = h; answer_is = answered }

-- an input of which a script is taken isn't too long
headed : (p : Program) (o : Option Parts) (b : Bool) → MatchResult (cond b (Err (Script TooLong)) (script_by o)) (λ script. Accepts script p) (λ refusal. ⊥) → IsOf p o
headed p o true h = absurd h
headed p o false h = h

pub audit_for : (rounds : ℕ) (input answer : List ℕ) → IsTextFor (Audit rounds) input answer → IsAudit rounds input answer
audit_for rounds input answer t = audit_of rounds input answer t.0 (parts_of input) refl (headed t.0 (parts_of input) (nat_lt most_bytes (length input)) t.1) t.2

pub wrote_audit : (words : List (List ℕ)) (left old new : Option (List ℕ)) (status : Status) → Wrote words left old new status → IsAudited words left old new status
wrote_audit words left old new status wrote = λ rounds. wrote_for (IsAudit rounds) words left old new (Audit rounds) refl (audit_for rounds) status wrote

-- Lawful reports

text_gets_yes : (p : Program) (options : Options) (journal : List Event) (report : List ℕ) → length p.resolved.calls ≤ most_calls → Lawful (batch_of p options) journal → report ≡ text p options journal
    → audit_verdict p options.rounds report ≡ Yes
text_gets_yes p options journal report few lawful is = ap (audit_verdict p options.rounds) is ∙ lawful_is_yes p options journal lawful (is_plain p options journal few lawful)

yes_is_told : (p : Program) (rounds : ℕ) (report : List ℕ) → audit_verdict p rounds report ≡ Yes → IsLawfulReport p rounds report
yes_is_told p rounds report is =
    let it = yes_is_lawful p rounds report is in
    record { options = record { rounds = rounds; horizon = None }; journal = it.journal; rounds_are = refl; lawful = it.lawful; text_is = it.text_is }

lawful_gets_yes : (p : Program) (rounds : ℕ) (report : List ℕ) → length p.resolved.calls ≤ most_calls → IsLawfulReport p rounds report → audit_verdict p rounds report ≡ Yes
lawful_gets_yes p rounds report few it =
    ap (λ n. audit_verdict p n report) (sym it.rounds_are) ∙ text_gets_yes p it.options it.journal report few it.lawful it.text_is

pub yes_is_exact : YesIsExact
yes_is_exact p rounds report few = (yes_is_told p rounds report, lawful_gets_yes p rounds report few)

pub runs_get_yes : RunsGetYes
runs_get_yes p options report few run = text_gets_yes p options run.journal report few run.lawful run.text_is
