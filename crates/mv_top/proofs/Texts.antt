-- What workers leave has the text of a run, and a text fixes its journal.
use Rattle.std.proofs.Common.{◌≡◌, inl, inr, ◌<◌, ◌≤◌, ℕ, Bool, true, false, if◌then◌else◌, List, [], ◌∷◌, ◌++◌, Option, Some, None, Result, Ok, Err, All, refl, sym, ap, ◌∙◌, arith, length}
use Rattle.std.specs.Prelude.{codes, slice_get}
use Rattle.std.proofs.lemmas.List.Elements.{All-nil, All-push, All-map, All-weaker}
use Rattle.mv_values.specs.declared.schema.TableInfo.{TableInfo}
use Rattle.mv_values.specs.declared.calls.Call.{Call}
use Rattle.mv_values.specs.declared.calls.End.{End}
use Rattle.mv_values.specs.declared.calls.End.TheVariants.{MissingParent, HasChildren}
use Rattle.mv_values.specs.References.{references, references_to}
use Rattle.mv_values.specs.declared.calls.Options.{Options}
use Rattle.mv_values.specs.declared.calls.Reply.{Reply}
use Rattle.mv_values.specs.Tables.{key_columns, columns_at, rows_at, Tables}
use Rattle.mv_values.specs.Texts.{line}
use Rattle.mv_values.specs.Counts.{first_numbers}
use Rattle.mv_catalog.specs.declared.resolved.Program.{Program}
use Rattle.mv_catalog.specs.declared.resolved.ProcInfo.{ProcInfo}
use Rattle.mv_catalog.specs.declared.resolved.RStmt.TheOpen.{RStmt-F, Assign, Select, Total, ForSelect, ForRows, Branch, Insert, Update, Delete, Print, Rollback}
use Rattle.mv_accept.specs.Accepting.{most_calls}
use Rattle.mv_eval.specs.declared.state.Env.{Env}
use Rattle.mv_eval.specs.declared.state.State.{State}
use Rattle.mv_eval.specs.Results.{then_do}
use Rattle.mv_eval.specs.Value.{value_of, values_of}
use Rattle.mv_eval.specs.Rows.{tests_of, aggregate, is_some_row}
use Rattle.mv_eval.specs.Changes.{new_row, put_row, keyed, updated, set_row_by, without}
use Rattle.mv_eval.specs.References.{has_parents, has_children, fit_in}
use Rattle.mv_eval.specs.Line.{line_of}
use Rattle.mv_eval.specs.Alone.{alone, matching_in, offset_of, with_rows}
use Rattle.mv_eval.specs.TableAfter.{begun, result_of, result_at, result_in, reply_in as reply_from}
use Rattle.mv_record.specs.declared.record.Record.{Record}
use Rattle.mv_recorded.specs.Doing.{itself, fixed_rows}
use Rattle.mv_recorded.specs.Recorded.{own_record, recorded, outside}
use Rattle.mv_recorded.proofs.Following.{Claim, IsLaw, told_follows}
use Rattle.mv_journal.specs.declared.event.Event.{Event}
use Rattle.mv_journal.specs.declared.event.Event.TheVariants.{B, S, A, M, C, X, R, G}
use Rattle.mv_journal.specs.declared.outcome.Outcome.{Outcome}
use Rattle.mv_journal.specs.Events.{IsInRange}
use Rattle.mv_lawful.specs.Batch.{Batch}
use Rattle.mv_lawful.specs.Lawful.{Lawful, schedule_of}
use Rattle.mv_lawful.specs.Places.{start_in}
use Rattle.mv_lawful.specs.Rounds.{IsBounded}
use Rattle.mv_lawful.specs.Laws.{IsOfCalls}
use Rattle.mv_lawful.specs.Outcomes.{reply_in, reply_after, commits_before, without_collections, shown, IsOutcomeInTurn, outcome_of}
use Rattle.mv_lawful.proofs.Collections.{collections_are_unseen}
use Rattle.mv_lawful.proofs.Serial.{lawful_names_calls}
use Rattle.mv_lawful.proofs.Showing.{shown_is_all_shown, shown_is_lawful, shown_is_bounded, shown_has_the_outcome}
use Rattle.mv_lawful.proofs.Turned.{in_turn_is_lawful}
use Rattle.mv_report.specs.Shown.{IsPrinted, IsPlain}
use Rattle.mv_report.specs.Text.{replies_text, history_text, event_line, journal_text, tables_text, text_of}
use Rattle.mv_report.specs.JournalLines.{journal_lines_in}
use Rattle.mv_report.proofs.Fixing.{text_fixes}
use Rattle.mv_report.proofs.Lining.{text_has_journal}
use Rattle.mv_gate.specs.Gates.{IsOutcome}
use Rattle.mv_report.specs.History.{batch_of, text, in_turn as turns_of, IsRunText}
use Rattle.mv_top.specs.History.{TextFixesJournal, TextHasItsJournal}
use Rattle.mv_top.specs.Workers.{IsLeftBy}
use Rattle.mv_top.specs.Answers.{IsTextOfWorkers}

-- Shown events

lines_shown : (es : List Event) → journal_text (shown es) ≡ journal_text es
lines_shown [] = refl
lines_shown (B c ∷ es) = ap (λ bytes. event_line (B c) ++ bytes) (lines_shown es)
lines_shown (S c ∷ es) = lines_shown es
lines_shown (A c ∷ es) = ap (λ bytes. event_line (A c) ++ bytes) (lines_shown es)
lines_shown (M c ∷ es) = ap (λ bytes. event_line (M c) ++ bytes) (lines_shown es)
lines_shown (C c ∷ es) = ap (λ bytes. event_line (C c) ++ bytes) (lines_shown es)
lines_shown (X c ∷ es) = ap (λ bytes. event_line (X c) ++ bytes) (lines_shown es)
lines_shown (R c ∷ es) = ap (λ bytes. event_line (R c) ++ bytes) (lines_shown es)
lines_shown (G ∷ es) = lines_shown es

-- a text that has the lines of an outcome's events
abbrev with_lines : List TableInfo → Outcome → List ℕ → List ℕ
with_lines tables o lines =
    replies_text o.replies ++ line (codes "history") ++ history_text o.history ++ line (codes "journal") ++ lines ++ tables_text tables o.tables ++ line (codes "end")

-- the events that are shown have the same text
pub text_shown : (p : Program) (options : Options) (es : List Event) → text p options es ≡ text p options (shown es)
text_shown p options es =
    ap (with_lines p.resolved.tables (outcome_of (batch_of p options) es)) (sym (lines_shown es))
    ∙ ap (text_of p.resolved.tables) (sym (shown_has_the_outcome (batch_of p options) es))

-- Runs

-- the text of a lawful and bounded journal, which is that of the events that it shows
run_text : (p : Program) (options : Options) (es : List Event) (bytes : List ℕ) → Lawful (batch_of p options) es → IsBounded (batch_of p options) es → bytes ≡ text p options es → IsRunText p options bytes
run_text p options es bytes lawful bounded is = record {
  journal = shown es;
  printed = shown_is_all_shown es;
  lawful = shown_is_lawful (batch_of p options) es lawful;
  bounded = shown_is_bounded (batch_of p options) es bounded;
  text_is = is ∙ text_shown p options es;
}

-- the text of what several workers leave
text_runs : (p : Program) (options : Options) (count : ℕ) (bytes : List ℕ) (left : Outcome) → 1 < count → IsOutcome (batch_of p options) left → bytes ≡ text_of p.resolved.tables left
    → IsTextOfWorkers count options p bytes
text_runs p options count bytes left more is h =
    (run_text p options left.journal bytes is.lawful is.bounded (h ∙ ap (text_of p.resolved.tables) is.outcome), λ one. absurd (omega (arith, more, one)))

-- collections have no line
lines_unseen : (es : List Event) → journal_text (without_collections es) ≡ journal_text es
lines_unseen [] = refl
lines_unseen (B c ∷ es) = ap (λ bytes. event_line (B c) ++ bytes) (lines_unseen es)
lines_unseen (S c ∷ es) = ap (λ bytes. event_line (S c) ++ bytes) (lines_unseen es)
lines_unseen (A c ∷ es) = ap (λ bytes. event_line (A c) ++ bytes) (lines_unseen es)
lines_unseen (M c ∷ es) = ap (λ bytes. event_line (M c) ++ bytes) (lines_unseen es)
lines_unseen (C c ∷ es) = ap (λ bytes. event_line (C c) ++ bytes) (lines_unseen es)
lines_unseen (X c ∷ es) = ap (λ bytes. event_line (X c) ++ bytes) (lines_unseen es)
lines_unseen (R c ∷ es) = ap (λ bytes. event_line (R c) ++ bytes) (lines_unseen es)
lines_unseen (G ∷ es) = lines_unseen es

text_unseen : (w : Batch) (tables : List TableInfo) (es : List Event) → text_of tables (outcome_of w es) ≡ text_of tables (outcome_of w (without_collections es))
text_unseen w tables es = ap (text_of tables) (collections_are_unseen w es) ∙ ap (with_lines tables (outcome_of w (without_collections es))) (sym (lines_unseen es))

-- the text of what one worker leaves
text_turns : (p : Program) (options : Options) (bytes : List ℕ) (left : Outcome) → IsOutcomeInTurn (batch_of p options) (length p.resolved.calls) left → bytes ≡ text_of p.resolved.tables left
    → bytes ≡ text p options (turns_of p)
text_turns p options bytes left is h =
    h ∙ (ap (text_of p.resolved.tables) is.outcome ∙ (text_unseen (batch_of p options) p.resolved.tables is.journal
    ∙ ap (λ es. text_of p.resolved.tables (outcome_of (batch_of p options) es)) is.turns))

-- it is one of any number of them
turns_are_run : (p : Program) (options : Options) (count : ℕ) (bytes : List ℕ) → bytes ≡ text p options (turns_of p) → IsTextOfWorkers count options p bytes
turns_are_run p options count bytes is =
    let it = in_turn_is_lawful (batch_of p options) in
    (run_text p options (turns_of p) bytes it.lawful it.bounded is, λ one. is)

-- the text of what any number of workers leave
pub text_left : (p : Program) (options : Options) (count : ℕ) (bytes : List ℕ) (left : Outcome) → IsLeftBy count (batch_of p options) (length p.resolved.calls) left → bytes ≡ text_of p.resolved.tables left
    → IsTextOfWorkers count options p bytes
text_left p options count bytes left (inl several) h = text_runs p options count bytes left several.0 several.1 h
text_left p options count bytes left (inr turns) h = turns_are_run p options count bytes (text_turns p options bytes left turns h)

-- The lines of replies

-- the lines of the state are PRINT's if those before were
abbrev Prints : Claim
Prints st rs (Ok next) = All IsPrinted st.lines → All IsPrinted next.lines
Prints st rs (Err e) = Unit {0}

prints_more : (st next : State) (rs ss : List Record) (out : Result State End) → Prints st rs (Ok next) → Prints next ss out → Prints st (rs ++ ss) out
prints_more st next rs ss (Ok last) h k = λ p. k (h p)
prints_more st next rs ss (Err e) h k = tt

prints_inside : (st : State) (env : Env) (rs : List Record) (out : Result State End) → Prints (record st { env = env }) rs out → Prints st rs out
prints_inside st env rs (Ok next) h = h
prints_inside st env rs (Err e) h = tt

then_prints : {X : Type 0} (r : Result X End) (go : X → Result State End) (st : State) (rs : List Record) → ((x : X) → Prints st rs (go x)) → Prints st rs (then_do r go)
then_prints (Ok x) go st rs h = h x
then_prints (Err e) go st rs h = tt

-- a state after a check, which leaves the lines
prints_if : (b : Bool) (e : End) (st next : State) (rs : List Record) → Prints st rs (Ok next) → Prints st rs (if b then Ok next else Err e)
prints_if true e st next rs h = h
prints_if false e st next rs h = tt

prints_unless : (b : Bool) (e : End) (st next : State) (rs : List Record) → Prints st rs (Ok next) → Prints st rs (if b then Err e else Ok next)
prints_unless true e st next rs h = tt
prints_unless false e st next rs h = h

prints_own : {Y : Type 0} (tables : List TableInfo) (y : RStmt-F Y) (st : State) (rs : List Record) → Prints st rs (itself tables y st)
prints_own tables (Assign x e) st rs = then_prints (value_of e st.env []) _ st rs (λ v h. h)
prints_own tables (Select cs xs t conds sorts offset) st rs = then_prints (tests_of (key_columns tables t) conds st.env) _ st rs (λ tests. then_prints (offset_of offset st.env) _ st rs (λ at h. h))
prints_own tables (Total agg x t conds) st rs = then_prints (tests_of (key_columns tables t) conds st.env) _ st rs (λ tests. then_prints (aggregate agg (matching_in t tests st)) _ st rs (λ v h. h))
prints_own {Y} tables (ForSelect x once cs t conds sorts body) st rs = then_prints (fixed_rows {X = Y} tables (ForSelect x once cs t conds sorts body) st) _ st rs (λ rows h. h)
prints_own tables (ForRows x y body) st rs = λ h. h
prints_own tables (Branch e ys ns) st rs = then_prints (value_of e st.env []) _ st rs (λ v h. h)
prints_own tables (Insert t es) st rs =
    then_prints (new_row (columns_at tables t) es st.env) _ st rs (λ row. then_prints (put_row (keyed (key_columns tables t) row) (rows_at st.tables t)) _ st rs
    (λ rows. prints_if (has_parents (references tables t) (keyed (key_columns tables t) row) st.tables) MissingParent st (with_rows t rows true st) rs (λ h. h)))
prints_own tables (Update t items conds) st rs =
    then_prints (tests_of (key_columns tables t) conds st.env) _ st rs (λ tests.
    then_prints (updated (λ row. set_row_by (fit_in tables t st.tables) (key_columns tables t) st.env row items row) tests (rows_at st.tables t)) _ st rs (λ rows h. h))
prints_own tables (Delete t conds) st rs =
    then_prints (tests_of (key_columns tables t) conds st.env) _ st rs (λ tests.
    prints_unless (has_children (references_to tables t) t tests st.tables (matching_in t tests st)) HasChildren st (with_rows t (without tests (rows_at st.tables t)) (is_some_row (matching_in t tests st)) st) rs (λ h. h))
prints_own tables (Print es) st rs = then_prints (values_of es st.env) _ st rs (λ vs h. All-push IsPrinted st.lines (line_of vs) h (vs, refl))
prints_own tables (Rollback reason) st rs = tt

prints_law : IsLaw Prints
prints_law = record {
  none = λ st h. h;
  more = prints_more;
  enters = prints_inside;
  own = λ tables params y n site before st. prints_own tables y st (own_record tables params y n site before st ∷ []);
}

-- a call prints such lines alone
reply_prints : (p : Program) (c : ℕ) (db : Tables) → All IsPrinted (reply_from (result_of p c db)).lines
reply_prints p c db = by_call (slice_get p.resolved.calls c)
  where
    ended : (proc : ProcInfo) (call : Call) (rs : List Record) (out : Result State End) → Prints (begun proc call db) rs out → All IsPrinted (reply_from out).lines
    ended proc call rs (Ok next) h = h (All-nil IsPrinted)
    ended proc call rs (Err e) h = All-nil IsPrinted

    by_proc : (o : Option ProcInfo) (call : Call) → All IsPrinted (reply_from (result_in p o call db)).lines
    by_proc None call = All-nil IsPrinted
    by_proc (Some proc) call =
        ended proc call (recorded p.resolved.tables proc call db) (alone p.resolved.tables proc.body (begun proc call db))
        (told_follows Prints prints_law p.resolved.tables (length call.arguments) proc.body 1 outside [] (begun proc call db))

    by_call : (o : Option Call) → All IsPrinted (reply_from (result_at p o db)).lines
    by_call None = All-nil IsPrinted
    by_call (Some call) = by_proc (slice_get p.resolved.procedures call.procedure) call

-- Journals

in_range : (n : ℕ) (e : Event) → n ≤ most_calls → IsOfCalls n e → IsInRange e
in_range n (B c) few h = omega (arith, few, h)
in_range n (S c) few h = omega (arith, few, h)
in_range n (A c) few h = omega (arith, few, h)
in_range n (M c) few h = omega (arith, few, h)
in_range n (C c) few h = omega (arith, few, h)
in_range n (X c) few h = omega (arith, few, h)
in_range n (R c) few h = omega (arith, few, h)
in_range n G few h = tt

pub is_plain : (p : Program) (options : Options) (journal : List Event) → length p.resolved.calls ≤ most_calls → Lawful (batch_of p options) journal → IsPlain (outcome_of (batch_of p options) journal)
is_plain p options journal few lawful = record {
  lines = All-map (λ (reply : Reply). All IsPrinted reply.lines) (reply_in w (schedule_of w journal)) (first_numbers w.count) (λ k d lt. by_place _ (commits_before order (schedule_of w journal).answered (start_in (schedule_of w journal).calls _) _));
  calls = All-weaker (IsOfCalls w.count) IsInRange (λ e. in_range w.count e few) journal (lawful_names_calls w journal lawful);
}
  where
    w : Batch
    w = batch_of p options

    order : List ℕ
    order = (schedule_of w journal).order

    by_place : (c : ℕ) (o : Option ℕ) → All IsPrinted (reply_after w order c o).lines
    by_place c None = All-nil IsPrinted
    by_place c (Some k) = reply_prints p c _

pub text_fixes_journal : TextFixesJournal
text_fixes_journal bytes one other a b =
    text_fixes a.program.resolved.tables b.program.resolved.tables (outcome_of (batch_of a.program a.options) one) (outcome_of (batch_of b.program b.options) other)
    (is_plain a.program a.options one a.few a.lawful) (is_plain b.program b.options other b.few b.lawful) (sym a.text_is ∙ b.text_is)

pub text_has_its_journal : TextHasItsJournal
text_has_its_journal bytes journal a =
    ap journal_lines_in a.text_is
    ∙ text_has_journal a.program.resolved.tables (outcome_of (batch_of a.program a.options) journal) (is_plain a.program a.options journal a.few a.lawful)
