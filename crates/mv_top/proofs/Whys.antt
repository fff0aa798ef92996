-- The lines of a lawful journal's repairs, and the refusal of any other journal.
use Rattle.std.proofs.Common.{◌≡◌, ℕ, List, Option, Result, Ok, Err, refl, ap, subst, ◌∙◌}
use Rattle.std.specs.Prelude.{IfOk, IfErr}
use Rattle.mv_values.specs.declared.calls.Options.{Options}
use Rattle.mv_values.specs.declared.schema.TableInfo.{TableInfo}
use Rattle.mv_catalog.specs.declared.resolved.Program.{Program}
use Rattle.mv_journal.specs.declared.event.Event.{Event}
use Rattle.mv_lawful.specs.Batch.{Batch}
use Rattle.mv_lawful.specs.Lawful.{Lawful}
use Rattle.mv_explain.specs.Text.{why_text}
use Rattle.mv_report.specs.History.{batch_of}
use Rattle.mv_words.specs.declared.command.Command.TheVariants.{Why}
use Rattle.mv_top.specs.declared.refusal.NoText.{NoText}
use Rattle.mv_top.specs.declared.status.Status.{Status}
use Rattle.mv_top.specs.Journals.{IsJournalOf}
use Rattle.mv_top.specs.Refusing.{TellsWrong, TellsJournal}
use Rattle.mv_top.specs.Whys.{IsWhyText, IsWhyFor, IsExplained}
use Rattle.mv_top.specs.Answers.{IsTextFor, Wrote}
use Rattle.mv_top.proofs.Driving.{journal_told}
use Rattle.mv_top.proofs.Headlines.{wrote_for}

pub why_is : (options : Options) (bytes : List ℕ) (p : Program) (w : Batch) (tables : List TableInfo) (es events : List Event) (result : Result (List ℕ) NoText) → w ≡ batch_of p options → tables ≡ p.resolved.tables → es ≡ events
    → IsJournalOf bytes p events → IfOk result (λ _. Lawful w es) → IfOk result (λ text. text ≡ why_text tables w es) → IfOk result (IsWhyText options bytes p)
why_is options bytes p w tables es events (Ok text) same named listed are lawful is = record {
  events = events;
  is = record { are = are; lawful = subst (λ (v : Batch). Lawful v events) same (subst (Lawful w) listed lawful) };
  text_is = is ∙ ap (why_text tables w) listed ∙ ap (λ (ts : List TableInfo). why_text ts w events) named ∙ ap (λ (v : Batch). why_text p.resolved.tables v events) same;
}
why_is options bytes p w tables es events (Err f) same named listed are lawful is = tt

pub why_is_told : (options : Options) (bytes : List ℕ) (p : Program) (w : Batch) (es events : List Event) (result : Result (List ℕ) NoText) → w ≡ batch_of p options → es ≡ events
    → IsJournalOf bytes p events → IfErr result (TellsWrong w es) → IfErr result (TellsJournal options bytes p)
why_is_told options bytes p w es events (Ok text) same listed are wrong = tt
why_is_told options bytes p w es events (Err f) same listed are wrong = journal_told options bytes p w events f same are (subst (λ (xs : List Event). TellsWrong w xs f) listed wrong)

why_for : (options : Options) (script answer : List ℕ) → IsTextFor (Why options) script answer → IsWhyFor options script answer
why_for options script answer t = t

pub wrote_why : (words : List (List ℕ)) (left old new : Option (List ℕ)) (status : Status) → Wrote words left old new status → IsExplained words left old new status
wrote_why words left old new status wrote = λ options. wrote_for (IsWhyFor options) words left old new (Why options) refl (why_for options) status wrote
