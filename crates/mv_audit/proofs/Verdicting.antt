-- The verdict on a report, by its journal.
use Rattle.std.proofs.Common.{◌≡◌, ℕ, ◌+◌, Bool, true, false, List, [], ◌∷◌, Option, Some, None, length, refl, sym, ap, subst, ◌∙◌, rules}
use Rattle.std.specs.Prelude.{◌==◌, All, map, if◌then◌else◌}
use Rattle.std.specs.List.{AllByRecursion}
use Rattle.std.specs.Option.{option_and_then}
use Rattle.std.proofs.lemmas.List.Elements.{All-from_recursion}
use Rattle.mv_catalog.specs.declared.resolved.Program.{Program}
use Rattle.mv_journal.specs.declared.event.Event.{Event}
use Rattle.mv_journal.specs.Reading.{event_in}
use Rattle.mv_lawful.specs.declared.fault.EventFault.{EventFault}
use Rattle.mv_lawful.specs.declared.fault.Wrong.{Wrong}
use Rattle.mv_lawful.specs.declared.fault.Wrong.TheVariants as wrong
use Rattle.mv_lawful.specs.Lawful.{wrong_with}
use Rattle.mv_lawful.specs.Outcomes.{has_line, outcome_of}
use Rattle.mv_report.specs.Text.{text_of}
use Rattle.mv_report.specs.JournalLines.{lines_in, after_journal, before_tables}
use Rattle.mv_audit.specs.declared.verdict.Verdict.TheVariants.{Yes, NoJournal, Line}
use Rattle.mv_audit.specs.Schedules.{audited}
use Rattle.mv_audit.specs.Verdicts.{journal_at, shown_event, leading, events_of, fault_of, fault_in, difference, judged, verdict_after, audit_verdict}

-- Events of lines

lined : (o : Option Event) (e : Event) → option_and_then (λ event. if has_line event then Some event else None) o ≡ Some e → has_line e ≡ true
lined None e h = absurd (search (rules, h))
lined (Some event) e h = by (has_line event) refl h where
  by : (b : Bool) → has_line event ≡ b → (if b then Some event else None) ≡ Some e → has_line e ≡ true
  by true is k = let same : event ≡ e = search (rules, k) in sym (ap has_line same) ∙ is
  by false is k = absurd (search (rules, k))

lines_lined : (ls : List (List ℕ)) → AllByRecursion (λ (e : Event). has_line e ≡ true) (events_of ls)
lines_lined [] = tt
lines_lined (l ∷ ls) = by (shown_event l) refl (lines_lined ls) where
  by : (o : Option Event) → shown_event l ≡ o → AllByRecursion (λ (e : Event). has_line e ≡ true) (events_of ls) → AllByRecursion (λ (e : Event). has_line e ≡ true) (leading (o ∷ map shown_event ls))
  by None is rest = tt
  by (Some e) is rest = (lined (event_in l) e is, rest)

pub have_lines : (ls : List (List ℕ)) (es : List Event) → es ≡ events_of ls → All (λ (e : Event). has_line e ≡ true) es
have_lines ls es is = subst (All (λ (e : Event). has_line e ≡ true)) (sym is) (All-from_recursion (λ (e : Event). has_line e ≡ true) (events_of ls) (lines_lined ls))

-- Verdicts

pub no_journal : (p : Program) (rounds : ℕ) (report : List ℕ) → journal_at 1 (lines_in report) ≡ None → NoJournal ≡ audit_verdict p rounds report
no_journal p rounds report none = sym (ap (verdict_after p.resolved.tables (audited p rounds) report) none)

-- a report has a journal, after the line of this number; what was read of it
pub record HasRead (report rest : List ℕ) (at : ℕ) (es : List Event) (whole : Bool) : Type 0 where
  pub at_is : journal_at 1 (lines_in report) ≡ Some at
  pub rest_is : after_journal (lines_in report) ≡ lines_in rest
  pub events_are : es ≡ events_of (before_tables (lines_in rest))
  pub whole_is : whole ≡ (length es == length (before_tables (lines_in rest)))

abbrev pub differs : Program → ℕ → List ℕ → List Event → Option ℕ
differs p rounds report es = difference 1 report (text_of p.resolved.tables (outcome_of (audited p rounds) es))

found : (p : Program) (rounds : ℕ) (report rest : List ℕ) (at : ℕ) (es : List Event) (whole : Bool) → HasRead report rest at es whole
    → audit_verdict p rounds report ≡ judged at (fault_of (wrong_with (audited p rounds) es) (length es) (length (before_tables (lines_in rest)))) (differs p rounds report es)
found p rounds report rest at es whole h =
    ap (verdict_after p.resolved.tables (audited p rounds) report) h.at_is
    ∙ (ap (λ ls. judged at (fault_in (audited p rounds) (before_tables ls)) (differs p rounds report (events_of (before_tables ls)))) h.rest_is
    ∙ ap (λ xs. judged at (fault_of (wrong_with (audited p rounds) xs) (length xs) (length (before_tables (lines_in rest)))) (differs p rounds report xs)) (sym h.events_are))

module _ (p : Program) (rounds : ℕ) (report rest : List ℕ) (at : ℕ) (es : List Event) (whole : Bool) (h : HasRead report rest at es whole) where
  by_wrong : (o : Option Wrong) → wrong_with (audited p rounds) es ≡ o → audit_verdict p rounds report ≡ judged at (fault_of o (length es) (length (before_tables (lines_in rest)))) (differs p rounds report es)
  by_wrong o is = found p rounds report rest at es whole h ∙ ap (λ x. judged at (fault_of x (length es) (length (before_tables (lines_in rest)))) (differs p rounds report es)) is

  pub refused_line : (n : ℕ) (f : EventFault) → wrong_with (audited p rounds) es ≡ Some (wrong.Refused n f) → Line (at + n) ≡ audit_verdict p rounds report
  refused_line n f is = sym (by_wrong (Some (wrong.Refused n f)) is)

  pub open_line : (c : ℕ) → wrong_with (audited p rounds) es ≡ Some (wrong.Open c) → Line (at + (length es + 1)) ≡ audit_verdict p rounds report
  open_line c is = sym (by_wrong (Some (wrong.Open c)) is)

  by_whole : (b : Bool) → wrong_with (audited p rounds) es ≡ None → whole ≡ b → audit_verdict p rounds report ≡ judged at (if b then None else Some (length es + 1)) (differs p rounds report es)
  by_whole b is w = by_wrong None is ∙ ap (λ x. judged at (if x then None else Some (length es + 1)) (differs p rounds report es)) (sym h.whole_is ∙ w)

  pub short_line : wrong_with (audited p rounds) es ≡ None → whole ≡ false → Line (at + (length es + 1)) ≡ audit_verdict p rounds report
  short_line is w = sym (by_whole false is w)

  pub other_line : (n : ℕ) → wrong_with (audited p rounds) es ≡ None → whole ≡ true → Some n ≡ differs p rounds report es → Line n ≡ audit_verdict p rounds report
  other_line n is w d = sym (by_whole true is w ∙ ap (judged at None) (sym d))

  pub yes_line : wrong_with (audited p rounds) es ≡ None → whole ≡ true → None ≡ differs p rounds report es → Yes ≡ audit_verdict p rounds report
  yes_line is w d = sym (by_whole true is w ∙ ap (judged at None) (sym d))
