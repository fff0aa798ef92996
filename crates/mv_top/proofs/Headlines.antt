-- A lawful journal has a text by which its calls are serializable.
use Rattle.std.proofs.Common.{◌≡◌, ◌≤◌, ◌<◌, ℕ, zero, suc, true, List, [], ◌∷◌, Option, Some, None, length, take, refl, ap, subst, ◌∙◌, arith}
use Rattle.std.specs.Prelude.{slice_get, slice_index}
use Rattle.std.specs.Option.{ForSome}
use Rattle.std.proofs.lemmas.Option.{same_Some, slice_get-get_or, slice_get_within}
use Rattle.mv_edge.specs.Edge.{Writes}
use Rattle.mv_values.specs.declared.calls.Call.{Call}
use Rattle.mv_values.specs.declared.calls.Options.{Options}
use Rattle.mv_values.specs.Tables.{Tables}
use Rattle.mv_catalog.specs.declared.resolved.ProcInfo.{ProcInfo}
use Rattle.mv_catalog.specs.declared.resolved.Program.{Program}
use Rattle.mv_catalog.specs.Text.{FitsText, IsProcedure}
use Rattle.mv_accept.proofs.Fitting.{accepted_fits}
use Rattle.mv_eval.specs.TableAfter.{result_of, result_in, result_at, tables_left, table_after, reply_in}
use Rattle.mv_recorded.proofs.Quiet.{readers_change_nothing}
use Rattle.mv_recorded.proofs.RowsTyped.{all_get}
use Rattle.mv_journal.specs.declared.event.Event.{Event}
use Rattle.mv_journal.specs.declared.outcome.Outcome.{Outcome}
use Rattle.mv_lawful.specs.Batch.{Batch, tables_after, table_at, ReadersKeepTables}
use Rattle.mv_lawful.specs.Lawful.{Lawful}
use Rattle.mv_lawful.specs.Outcomes.{outcome_of, shown}
use Rattle.mv_lawful.specs.Serializable.{order_of, IsSerializable}
use Rattle.mv_lawful.proofs.Serializing.{lawful_is_serializable}
use Rattle.mv_lawful.proofs.Showing.{shown_is_all_shown, shown_is_lawful}
use Rattle.mv_report.specs.History.{batch_of, text, reads_in, reads_by}
use Rattle.mv_words.specs.declared.command.Command.{Command}
use Rattle.mv_words.specs.declared.command.Command.TheVariants.{Run, Replay}
use Rattle.mv_top.specs.declared.status.Status.{Status}
use Rattle.mv_top.specs.declared.status.Status.TheVariants.{Done}
use Rattle.mv_top.specs.Inputs.{input_of}
use Rattle.mv_top.specs.Answers.{IsTextFor, IsAnswer, usage, refused, done, StandFor, Wrote}
use Rattle.mv_top.proofs.Answering.{same_command}
use Rattle.mv_top.proofs.Texts.{text_shown}
use Rattle.mv_top.specs.Headline.{IsSerializableText, IsSerializableFor, IsSerializable as IsHeadline}

-- Tables

-- the tables after one call more
table_next : (w : Batch) (db : Tables) (order : List ℕ) (k c : ℕ) → slice_get order k ≡ Some c → tables_after w db (take (suc k) order) ≡ (w.run c (tables_after w db (take k order))).tables
table_next w db [] k c is = cc
table_next w db (d ∷ order) zero c is = ap (λ x. (w.run x db).tables) (same_Some d c is)
table_next w db (d ∷ order) (suc k) c is = table_next w (w.run d db).tables order k c is

-- the machine leaves the tables of a program's batch
table_same : (p : Program) (options : Options) (order : List ℕ) (k : ℕ) → k ≤ length order → table_at (batch_of p options) order k ≡ table_after p order k
table_same p options order zero le = refl
table_same p options order (suc k) le =
    let w : Batch = batch_of p options in
    let c : ℕ = slice_index order k in
    let at : slice_get order k ≡ Some c = slice_get-get_or order k 0 (omega (arith, le)) in
    table_next w w.opening order k c at ∙ ap (λ (db : Tables). tables_left db (result_of p c db)) (table_same p options order k (omega (arith, le)))

-- Read only calls

-- the read only calls of a program leave each database as it is
readers_keep : (p : Program) (options : Options) → FitsText p.resolved → ReadersKeepTables (batch_of p options)
readers_keep p options fits c db reads = by (slice_get p.resolved.calls c) reads
  where
    ran : (call : Call) (o : Option ProcInfo) → slice_get p.resolved.procedures call.procedure ≡ o → reads_by o ≡ true → tables_left db (result_in p o call db) ≡ db
    ran call None at is = refl
    ran call (Some proc) at is = readers_change_nothing p.resolved.tables proc call db (all_get (IsProcedure p.resolved.tables) p.resolved.procedures call.procedure proc fits.procedures at) is

    by : (o : Option Call) → reads_in p.resolved.procedures o ≡ true → tables_left db (result_at p o db) ≡ db
    by None is = refl
    by (Some call) is = ran call (slice_get p.resolved.procedures call.procedure) refl is

-- Texts

text_by : (p : Program) (options : Options) (es : List Event) (bytes : List ℕ) → shown es ≡ es → IsSerializable (batch_of p options) (outcome_of (batch_of p options) es) → bytes ≡ text p options es
    → IsSerializableText p bytes
text_by p options es bytes printed s is = record {
  replies = o.replies;
  history = o.history;
  journal = es;
  tables = o.tables;
  text_is = is;
  printed = printed;
  order = order_of o.history;
  order_is = refl;
  calls = s.calls;
  once = s.once;
  count = s.count;
  alone = λ k c at. s.replies k c at
      ∙ ap (λ (db : Tables). Some (reply_in (result_of p c db))) (table_same p options (order_of o.history) k (let within : k < length (order_of o.history) = slice_get_within (order_of o.history) k c at in omega (arith, within)));
  last = s.tables ∙ table_same p options (order_of o.history) (length (order_of o.history)) (omega arith);
  begun = s.begun;
  committed = s.committed;
  between = s.between;
  placed = s.placed;
  answered = s.answered;
  first = s.first;
  starts = s.starts;
}
  where
    o : Outcome
    o = outcome_of (batch_of p options) es

pub text_of_lawful : (p : Program) (options : Options) (es : List Event) (bytes : List ℕ) → FitsText p.resolved → Lawful (batch_of p options) es → bytes ≡ text p options es → IsSerializableText p bytes
text_of_lawful p options es bytes fits lawful is =
    text_by p options (shown es) bytes (shown_is_all_shown es) (lawful_is_serializable (batch_of p options) (shown es) (readers_keep p options fits) (shown_is_lawful (batch_of p options) es lawful)) (is ∙ text_shown p options es)

-- What is written

run_for : (threads : ℕ) (options : Options) (script bytes : List ℕ) → IsTextFor (Run threads options) script bytes → IsSerializableFor script bytes
run_for threads options script bytes t = let run = t.2.0 in (t.0, t.1, text_of_lawful t.0 options run.journal bytes (accepted_fits script t.0 t.1) run.lawful run.text_is)

pub replay_for : (options : Options) (script bytes : List ℕ) → IsTextFor (Replay options) script bytes → IsSerializableFor script bytes
replay_for options script bytes t = let it = t.2 in (t.0, t.1, text_of_lawful t.0 options it.events bytes (accepted_fits script t.0 t.1) it.is.lawful it.text_is)

-- the answer of a command, if all its texts for an input are such texts
answer_for : (IsSuch : List ℕ → List ℕ → Type 0) (words : List (List ℕ)) (left : Option (List ℕ)) (command : Command) (status : Status) (answer : List ℕ) → input_of command left ≡ left
    → ((script : List ℕ) → IsTextFor command script answer → IsSuch script answer) → StandFor words command → status ≡ Done → IsAnswer words left status answer → ForSome left (λ script. IsSuch script answer)
answer_for IsSuch words left command status answer input texts stands is (usage none) = cc
answer_for IsSuch words left command status answer input texts stands is (refused other number what said why) = cc
answer_for IsSuch words left command status answer input texts stands is (done other text said found) =
    let same : other ≡ command = same_command words other command said stands in
    λ script at. texts script (subst (λ (k : Command). IsTextFor k script answer) same (found script (ap (λ (k : Command). input_of k left) same ∙ (input ∙ at))))

pub wrote_for : (IsSuch : List ℕ → List ℕ → Type 0) (words : List (List ℕ)) (left old new : Option (List ℕ)) (command : Command) → input_of command left ≡ left → ((script answer : List ℕ) → IsTextFor command script answer → IsSuch script answer)
    → (status : Status) → Wrote words left old new status → StandFor words command → status ≡ Done → ForSome left (λ script. (answer : List ℕ) × IsSuch script answer × Writes old new answer)
wrote_for IsSuch words left old new command input texts status wrote stands is =
    let w : Wrote words left old new Done = subst (Wrote words left old new) is wrote in
    λ script at. (w.0, answer_for IsSuch words left command Done w.0 input (λ s. texts s w.0) stands refl w.1 script at, w.2)

pub wrote_serializable : (words : List (List ℕ)) (left old new : Option (List ℕ)) (status : Status) → Wrote words left old new status → IsHeadline words left old new status
wrote_serializable words left old new status wrote = (
  λ threads options. wrote_for IsSerializableFor words left old new (Run threads options) refl (run_for threads options) status wrote,
  λ options. wrote_for IsSerializableFor words left old new (Replay options) refl (replay_for options) status wrote,
)
