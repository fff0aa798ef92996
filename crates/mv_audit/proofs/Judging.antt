-- The verdict is Yes for the texts of lawful journals, and for no other text.
use Rattle.std.proofs.Common.{◌≡◌, ◌+◌, ℕ, zero, suc, Bool, true, false, List, [], ◌∷◌, ◌++◌, Option, Some, None, map, length, refl, sym, ap, subst, ◌∙◌, arith, if◌then◌else◌}
use Rattle.std.specs.Prelude.{nat_lt, codes}
use Rattle.std.specs.Option.{option_map}
use Rattle.std.proofs.lemmas.Bool.{both_ways, eq-eqb}
use Rattle.std.proofs.lemmas.Bool.Decides.{nat_tests}
use Rattle.std.proofs.lemmas.List.{length-map}
use Rattle.std.proofs.lemmas.List.Elements.{All-filter}
use Rattle.std.proofs.lemmas.Option.{none-some}
use Rattle.mv_values.specs.declared.rows.Keyed.{Keyed}
use Rattle.mv_values.specs.declared.schema.TableInfo.{TableInfo}
use Rattle.mv_values.specs.Counts.{first_numbers}
use Rattle.mv_values.specs.Texts.{line}
use Rattle.mv_journal.specs.declared.event.Event.{Event}
use Rattle.mv_journal.specs.Events.{event_text, IsInRange}
use Rattle.mv_journal.specs.declared.event.Event.TheVariants.{B, S, A, M, C, X, R, G}
use Rattle.mv_journal.specs.declared.outcome.Outcome.{Outcome}
use Rattle.mv_lawful.specs.declared.fault.Wrong.{Wrong}
use Rattle.mv_lawful.specs.declared.fault.Wrong.TheVariants.{Refused, Open}
use Rattle.mv_lawful.specs.Batch.{Batch}
use Rattle.mv_lawful.specs.Lawful.{Lawful, beginning, wrong_with}
use Rattle.mv_lawful.specs.Outcomes.{has_line, shown, reply_in, outcome_of}
use Rattle.mv_lawful.proofs.Showing.{shown_is_lawful, shown_has_the_outcome}
use Rattle.mv_report.specs.Text.{replies_text, history_text, event_line, journal_text, tables_text, text_of}
use Rattle.mv_report.specs.Shown.{IsPlain}
use Rattle.mv_report.specs.JournalLines.{is_word, lines_in, after_journal, before_tables, journal_lines_in}
use Rattle.mv_report.proofs.Lining.{text_has_journal}
use Rattle.mv_report.specs.History.{batch_of, text}
use Rattle.mv_audit.specs.declared.verdict.Verdict.TheVariants.{Yes}
use Rattle.mv_audit.specs.Verdicts.{ends_in, journal_at, events_of, fault_of, fault_in, difference, judged, verdict_after, verdict_of}
use Rattle.mv_audit.specs.Laws.{YesIsLawful, LawfulIsYes}
use Rattle.mv_audit.proofs.Endless.{endless, endless_lawful, endless_outcome}
use Rattle.mv_audit.proofs.Comparing.{same_text, no_difference}
use Rattle.mv_audit.proofs.Shown.{events_back, all_shown}

-- Yes comes only for such a text

unfaulted : (o : Option Wrong) (events lines : ℕ) → fault_of o events lines ≡ None → o ≡ None
unfaulted None events lines h = refl
unfaulted (Some (Refused n fault)) events lines h = cc
unfaulted (Some (Open call)) events lines h = cc

abbrev Comes : Option ℕ → Option ℕ → Type 0
Comes fault differs = (fault ≡ None) × (differs ≡ None)

judged_yes : (at : ℕ) (fault differs : Option ℕ) → judged at fault differs ≡ Yes → Comes fault differs
judged_yes at None None h = (refl, refl)
judged_yes at None (Some n) h = cc
judged_yes at (Some n) differs h = cc

abbrev own_events : List ℕ → List Event
own_events report = events_of (journal_lines_in report)

abbrev IsOwnText : List TableInfo → Batch → List ℕ → Type 0
IsOwnText tables w report = Lawful w (own_events report) × (report ≡ text_of tables (outcome_of w (own_events report)))

yes_after : (tables : List TableInfo) (w : Batch) (report : List ℕ) (at : Option ℕ) → verdict_after tables w report at ≡ Yes → IsOwnText tables w report
yes_after tables w report None h = cc
yes_after tables w report (Some at) h =
    let parts = judged_yes at (fault_in w (journal_lines_in report)) (difference 1 report (text_of tables (outcome_of w (own_events report)))) h in (
      unfaulted (wrong_with w (own_events report)) (length (own_events report)) (length (journal_lines_in report)) parts.0,
      same_text 1 report (text_of tables (outcome_of w (own_events report))) parts.1,
    )

pub yes_is_lawful : YesIsLawful
yes_is_lawful p rounds report h =
    let parts = yes_after p.resolved.tables (batch_of p (record { rounds = rounds; horizon = None })) report (journal_at 1 (lines_in report)) h in
    record { journal = own_events report; printed = all_shown (journal_lines_in report); lawful = parts.0; text_is = parts.1 }

-- Such a text has a journal

no_line : (n : ℕ) (lines : List (List ℕ)) → journal_at n lines ≡ None → after_journal lines ≡ []
no_line n [] h = refl
no_line n (l ∷ lines) h = by (is_word l (codes "journal")) h (no_line (n + ends_in l + 1) lines)
  where
    by : (t : Bool) → (if t then Some n else journal_at (n + ends_in l + 1) lines) ≡ None → (journal_at (n + ends_in l + 1) lines ≡ None → after_journal lines ≡ []) → (if t then lines else after_journal lines) ≡ []
    by true k go = cc
    by false k go = go k

-- with an event in it
some_event : (report : List ℕ) (e : Event) (es : List Event) → journal_lines_in report ≡ map event_text (e ∷ es) → journal_at 1 (lines_in report) ≡ None → ⊥
some_event report e es has none =
    let empty : journal_lines_in report ≡ [] = ap before_tables (no_line 1 (lines_in report) none) in
    let both : map event_text (e ∷ es) ≡ [] = sym has ∙ empty in
    cc

-- without calls
no_calls : (count : ℕ) → option_map Open (if nat_lt 0 count then Some 0 else None) ≡ None → count ≡ 0
no_calls zero h = refl
no_calls (suc n) h = by (nat_lt 0 (suc n)) refl h
  where
    by : (t : Bool) → nat_lt 0 (suc n) ≡ t → option_map Open (if t then Some 0 else None) ≡ None → suc n ≡ 0
    by true e k = cc
    by false e k = let some : nat_lt 0 (suc n) ≡ true = grind (arith, nat_tests) in absurd (both_ways (nat_lt 0 (suc n)) e some)

-- the text of nothing but tables
abbrev bare : List TableInfo → List (List Keyed) → List ℕ
bare tables database = text_of tables (record { replies = []; history = []; journal = []; tables = database })

bare_has : (tables : List TableInfo) (database : List (List Keyed)) → journal_at 1 (lines_in (bare tables database)) ≡ Some 2
bare_has tables database = refl

-- the text of a run without events
without_events : (tables : List TableInfo) (w : Batch) → Lawful w [] → journal_at 1 (lines_in (text_of tables (outcome_of w []))) ≡ Some 2
without_events tables w lawful =
    ap (λ count. journal_at 1 (lines_in (text_of tables (record { replies = map (reply_in w beginning) (first_numbers count); history = []; journal = []; tables = w.opening })))) (no_calls w.count lawful)
    ∙ bare_has tables w.opening

-- The text of a lawful journal

lines_shown : (es : List Event) → journal_text (shown es) ≡ journal_text es
lines_shown [] = refl
lines_shown (e ∷ es) = by e (lines_shown es)
  where
    by : (e : Event) → journal_text (shown es) ≡ journal_text es → journal_text (shown (e ∷ es)) ≡ journal_text (e ∷ es)
    by (B c) go = ap (λ bytes. event_line (B c) ++ bytes) go
    by (S c) go = go
    by (A c) go = ap (λ bytes. event_line (A c) ++ bytes) go
    by (M c) go = ap (λ bytes. event_line (M c) ++ bytes) go
    by (C c) go = ap (λ bytes. event_line (C c) ++ bytes) go
    by (X c) go = ap (λ bytes. event_line (X c) ++ bytes) go
    by (R c) go = ap (λ bytes. event_line (R c) ++ bytes) go
    by G go = go

-- a text that has the lines of an outcome's events
abbrev with_lines : List TableInfo → Outcome → List ℕ → List ℕ
with_lines tables o lines =
    replies_text o.replies ++ line (codes "history") ++ history_text o.history ++ line (codes "journal") ++ lines ++ tables_text tables o.tables ++ line (codes "end")

text_shown : (tables : List TableInfo) (w : Batch) (es : List Event) → text_of tables (outcome_of w es) ≡ text_of tables (outcome_of w (shown es))
text_shown tables w es = ap (with_lines tables (outcome_of w es)) (sym (lines_shown es)) ∙ ap (text_of tables) (sym (shown_has_the_outcome w es))

yes_for : (tables : List TableInfo) (w : Batch) (report : List ℕ) (es : List Event) → Lawful w es → IsPlain (outcome_of w es) → report ≡ text_of tables (outcome_of w es) → verdict_of tables w report ≡ Yes
yes_for tables w report es lawful plain is = by (journal_at 1 (lines_in report)) refl
  where
    has : journal_lines_in report ≡ map event_text (shown es)
    has = ap journal_lines_in is ∙ text_has_journal tables (outcome_of w es) plain

    own : own_events report ≡ shown es
    own = ap events_of has ∙ events_back es plain.calls

    as_many : length (shown es) ≡ length (journal_lines_in report)
    as_many = sym (ap length has ∙ length-map (shown es) event_text)

    unfaulty : fault_in w (journal_lines_in report) ≡ None
    unfaulty =
        ap (λ fs. fault_of (wrong_with w fs) (length fs) (length (journal_lines_in report))) own
        ∙ (ap (λ o. fault_of o (length (shown es)) (length (journal_lines_in report))) (shown_is_lawful w es lawful)
        ∙ ap (λ t. if t then None else Some (length (shown es) + 1)) (eq-eqb (length (shown es)) (length (journal_lines_in report)) as_many))

    alike : difference 1 report (text_of tables (outcome_of w (own_events report))) ≡ None
    alike =
        ap (λ text. difference 1 report text) (ap (λ fs. text_of tables (outcome_of w fs)) own ∙ (sym (text_shown tables w es) ∙ sym is)) ∙ no_difference 1 report

    by_shown : (fs : List Event) → shown es ≡ fs → journal_at 1 (lines_in report) ≡ None → ⊥
    by_shown (f ∷ fs) e none = some_event report f fs (has ∙ ap (map event_text) e) none
    by_shown [] e none =
        let at : journal_at 1 (lines_in report) ≡ Some 2 =
        ap (λ r. journal_at 1 (lines_in r)) (is ∙ (text_shown tables w es ∙ ap (λ fs. text_of tables (outcome_of w fs)) e))
        ∙ without_events tables w (subst (Lawful w) e (shown_is_lawful w es lawful)) in
        none-some 2 (sym none ∙ at)

    by : (o : Option ℕ) → journal_at 1 (lines_in report) ≡ o → verdict_after tables w report o ≡ Yes
    by None e = absurd (by_shown (shown es) refl e)
    by (Some at) e = ap (λ f. judged at f (difference 1 report (text_of tables (outcome_of w (own_events report))))) unfaulty ∙ ap (judged at None) alike

-- the events that are shown leave plain lines too
shown_plain : (w : Batch) (es : List Event) → IsPlain (outcome_of w es) → IsPlain (outcome_of w (shown es))
shown_plain w es plain = subst IsPlain (sym (shown_has_the_outcome w es)) (record { lines = plain.lines; calls = All-filter has_line IsInRange es plain.calls })

pub lawful_is_yes : LawfulIsYes
lawful_is_yes p options journal lawful plain =
    let tables : List TableInfo = p.resolved.tables in
    let w : Batch = batch_of p options in
    let same : outcome_of (endless w) (shown journal) ≡ outcome_of w (shown journal) = endless_outcome w journal in
    yes_for tables (endless w) (text p options journal) (shown journal) (endless_lawful w journal (shown_is_lawful w journal lawful)) (subst IsPlain (sym same) (shown_plain w journal plain))
    (text_shown tables w journal ∙ ap (text_of tables) (sym same))
