-- The record of a statement that is executed is the next one.
use Rattle.std.proofs.Common.{◌≡◌, ℕ, ◌+◌, ◌-◌, List, [], ◌∷◌, ◌++◌, Some, None, length, drop, refl, sym, ap, subst, ◌∙◌, arith}
use Rattle.std.proofs.lemmas.List.{length_push}
use Rattle.mv_values.specs.declared.schema.TableInfo.{TableInfo}
use Rattle.mv_values.specs.Patching.{applied}
use Rattle.mv_values.specs.Tables.{Tables}
use Rattle.mv_catalog.specs.declared.resolved.ProcInfo.{ProcInfo}
use Rattle.mv_catalog.specs.declared.resolved.RStmt.{RStmt, out-RStmt}
use Rattle.mv_catalog.specs.Statements.{size}
use Rattle.mv_eval.specs.declared.state.Env.{Env}
use Rattle.mv_eval.specs.declared.state.State.{State}
use Rattle.mv_record.specs.declared.record.Record.{Record}
use Rattle.mv_record.specs.Runs.{writes_in}
use Rattle.mv_record.specs.Writes.{AreRising}
use Rattle.mv_recorded.specs.Asking.{on, preds_of}
use Rattle.mv_recorded.specs.Doing.{itself, effect_of}
use Rattle.mv_recorded.specs.Effect.{HasColumns}
use Rattle.mv_recorded.specs.Recorded.{Site, own_record, outside}
use Rattle.mv_undo.specs.Owning.{earlier}
use Rattle.mv_view.specs.Viewing.{Sight}
use Rattle.mv_log.specs.Logged.{Logged, owned}
use Rattle.mv_record.specs.declared.effect.Effect.{Effect}
use Rattle.mv_record.specs.Effects.{record_of}
use Rattle.mv_recorded.specs.Effects.{IsEffect}
use Rattle.mv_effect.specs.Looking.{AskedBy, AskedFor}
use Rattle.mv_graph.specs.declared.graph.Graph.{Graph}
use Rattle.mv_graph.specs.declared.graph.Step.{Step}
use Rattle.mv_graph.specs.Steps.{TellsOf}
use Rattle.mv_exec.specs.declared.frames.Frame.{Frame}
use Rattle.mv_exec.specs.Peeked.{Ahead}
use Rattle.mv_exec.specs.declared.task.Task.{Task}
use Rattle.mv_exec.specs.Left.{run, left, inside}
use Rattle.mv_exec.specs.Frames.{block_of, holder_of, site_in, site_of, turns_of, jobs_left, HoldsFrame}
use Rattle.mv_exec.specs.Tasks.{frames_of, state_of, left_of, IsTask}
use Rattle.mv_exec.specs.declared.recording.OpenStatement.{OpenStatement}
use Rattle.mv_exec.specs.declared.recording.Origin.TheVariants.{Executed}
use Rattle.mv_exec.specs.Ahead.{PeeksLeft, ahead_in}
use Rattle.mv_exec.specs.Recording.{IsRecordOf, peeked}
use Rattle.mv_exec.specs.Steps.{HasAddedRecord, HasExecuted, with_log}
use Rattle.mv_exec.specs.Running.{Peeks, first_preds, preds_ahead}
use Rattle.mv_exec.proofs.Adding.{left_next}
use Rattle.mv_exec.proofs.Adopting.{added_before}
use Rattle.mv_exec.proofs.Held.{asked_told}
use Rattle.mv_exec.proofs.Logs.{logged_before}
use Rattle.mv_exec.proofs.Writing.{own_writes}

-- The record

same_ahead : (a b : Ahead) → a.spot ≡ b.spot → a.parent ≡ b.parent → a.reads ≡ b.reads → a ≡ b
same_ahead a b s p r =
    ap (λ v. record a { spot = v }) s ∙ (ap (λ v. record a { spot = b.spot; parent = v }) p ∙ ap (λ v. record b { reads = v }) r)

-- the next record is this one
pub record LeavesNext (proc : ProcInfo) (tables : List TableInfo) (task : Task) (db : Tables) (r : Record) : Type 0 where
  pub tail : List Record
  pub left : left_of proc tables task db ≡ r ∷ tail

-- the record of the next statement's effect is the next one
effect_next : (proc : ProcInfo) (tables : List TableInfo) (task : Task) (db : Tables) (outer : List Frame) (p : Frame) (s : RStmt) (ahead : Ahead) (e : Effect)
    → IsTask proc task → HoldsFrame proc (frames_of task) outer p s → PeeksLeft proc task (Some ahead)
    → IsEffect tables (out-RStmt s) task.variables.env (applied (earlier (length task.log.records) (owned task.log)) db) e → LeavesNext proc tables task db (record_of ahead.spot ahead.parent ahead.reads e)
effect_next proc tables task db outer p s ahead e t at next effect =
    let st : State = state_of task db in
    let site : Site = site_in p.holder (site_of outside outer) in
    let own : Record = own_record tables task.parameters (out-RStmt s) p.number site task.log.records st in
    let rest : List Record = on (itself tables (out-RStmt s) st) (left tables task.parameters
    (inside tables (length task.log.records) (out-RStmt s) p.number site st ++ run site (p.number + size s) (drop (p.at + 1) (block_of proc (holder_of proc None outer) p))
    ∷ (turns_of task.log.records (site_of outside outer) (block_of proc (holder_of proc None outer) p) p.first p.holder ++ jobs_left proc task.log.records outer)) (task.log.records ++ own ∷ [])) in
    let leaves : left_of proc tables task db ≡ own ∷ rest = left_next proc tables task db outer p s at in
    let peeked : Peeks (Some ahead) (own ∷ rest) = subst (Peeks (Some ahead)) leaves (next tables db) in
    let is : e ≡ effect_of tables (out-RStmt s) st = subst (λ ws. IsEffect tables (out-RStmt s) task.variables.env (applied ws db) e) (own_writes task) effect st.lines in
    let same : own ≡ record_of ahead.spot ahead.parent ahead.reads e = ap (λ (a : Ahead). record_of a.spot a.parent a.reads (effect_of tables (out-RStmt s) st)) (same_ahead (ahead_in own) ahead peeked.0 peeked.1 peeked.2) ∙ ap (record_of ahead.spot ahead.parent ahead.reads) (sym is) in
    record {
      tail = rest;
      left = leaves ∙ ap (λ r. r ∷ rest) same;
    }

-- The record of the open statement

-- with this effect
abbrev pub record_in : Logged → OpenStatement → Record
record_in log at = record_of (record { statement = at.statement; turns = log.turns }) at.parent log.reads log.effect

-- it has what was peeked before the effect
pub as_peeked : (log new : Logged) (at : OpenStatement) → new ≡ record log { effect = new.effect } → (let a : Ahead = peeked log at in record_in new at ≡ record_of a.spot a.parent a.reads new.effect)
as_peeked log new at is = ap (λ (l : Logged). record_of (record { statement = at.statement; turns = l.turns }) at.parent l.reads new.effect) is

-- it was added to the call before the effect
pub added_effect : (proc : ProcInfo) (old : Task) (log : Logged) (at : OpenStatement) (new : Task) → log ≡ record old.log { effect = log.effect }
    → ((r : Record) → IsRecordOf log at Executed r → HasAddedRecord proc (with_log old log) r new) → HasAddedRecord proc old (record_in log at) new
added_effect proc old log at new is added =
    added_before proc old (with_log old log) (record_in log at) new (logged_before proc old log (ap (λ (l : Logged). l.records) is)) (added (record_in log at) refl)

-- What the view was asked

-- it was asked for the predicates of the next record
asked_next : (proc : ProcInfo) (tables : List TableInfo) (task : Task) (before after : Sight) (outer : List Frame) (p : Frame) (s : RStmt) → IsTask proc task → HoldsFrame proc (frames_of task) outer p s
    → AskedBy tables (out-RStmt s) task.variables.env (earlier (length task.log.records) (owned task.log)) before after → AskedFor (first_preds (left_of proc tables task before.database)) (writes_in task.log.records) before after
asked_next proc tables task before after outer p s t at asked =
    let st : State = state_of task before.database in
    subst (λ ps. AskedFor ps (writes_in task.log.records) before after) (sym (ap first_preds (left_next proc tables task before.database outer p s at)))
    (subst (λ ws. AskedFor (preds_of tables (out-RStmt s) (record { env = task.variables.env; tables = applied ws before.database; lines = st.lines })) ws before after) (own_writes task) (asked st.lines))

-- the same by the step of the open statement
pub asked_ahead : (g : Graph) (task : Task) (before after : Sight) (outer : List Frame) (p : Frame) (s : RStmt) (step : Step) (tables : List TableInfo) (env : Env) (n : ℕ) → IsTask g.procedure task → HoldsFrame g.procedure (frames_of task) outer p s
    → TellsOf g.procedure s step → tables ≡ g.tables → env ≡ task.variables.env → n ≡ length task.log.records → AskedBy tables (out-RStmt step.statement) env (earlier n (owned task.log)) before after
    → AskedFor (preds_ahead g before.database task) (writes_in task.log.records) before after
asked_ahead g task before after outer p s step tables env n t at tells same_tables same_env same_number asked =
    asked_next g.procedure g.tables task before after outer p s t at
    (asked_told g.tables g.procedure s step task.variables.env (earlier (length task.log.records) (owned task.log)) before after tells
    (subst (λ ts. AskedBy ts (out-RStmt step.statement) task.variables.env (earlier (length task.log.records) (owned task.log)) before after) same_tables
    (subst (λ e. AskedBy tables (out-RStmt step.statement) e (earlier (length task.log.records) (owned task.log)) before after) same_env
    (subst (λ k. AskedBy tables (out-RStmt step.statement) env (earlier k (owned task.log)) before after) same_number asked))))

-- What was executed

-- a record more was counted
pub counts_one : (proc : ProcInfo) (old : Task) (r : Record) (new : Task) (all number : ℕ) → HasAddedRecord proc old r new → new.executed ≡ old.executed → all ≡ length new.log.records → number ≡ length old.log.records
    → new.executed + (all - number) ≡ old.executed + 1
counts_one proc old r new all number h same is was =
    let more : length new.log.records ≡ length old.log.records + 1 = ap length h.records ∙ length_push old.log.records r in
    omega (arith, more, is, was, same)

-- the same record was added to the call with another count
recounted : (proc : ProcInfo) (old : Task) (r : Record) (new : Task) (n : ℕ) → HasAddedRecord proc old r new → HasAddedRecord proc old r (record new { executed = n })
recounted proc old r new n h = record { parameters = h.parameters; records = h.records; beginning = h.beginning; left = h.left; keys = h.keys }

-- the next record of the run was added
pub executed_next : (proc : ProcInfo) (tables : List TableInfo) (old new : Task) (before after : Sight) (n : ℕ) (outer : List Frame) (p : Frame) (s : RStmt) (ahead : Ahead) (e : Effect) (r : Record)
    → IsTask proc old → HoldsFrame proc (frames_of old) outer p s → HasColumns (out-RStmt s) → AreRising before.database → PeeksLeft proc old (Some ahead)
    → IsEffect tables (out-RStmt s) old.variables.env (applied (earlier (length old.log.records) (owned old.log)) before.database) e
    → AskedFor (first_preds (left_of proc tables old before.database)) (writes_in old.log.records) before after
    → r ≡ record_of ahead.spot ahead.parent ahead.reads e → HasAddedRecord proc old r new → HasExecuted tables proc old (record new { executed = n }) before after
executed_next proc tables old new before after n outer p s ahead e r t at has rise next effect asked is added =
    let it : LeavesNext proc tables old before.database (record_of ahead.spot ahead.parent ahead.reads e) = effect_next proc tables old before.database outer p s ahead e t at next effect in
    let left : left_of proc tables old before.database ≡ r ∷ it.tail = it.left ∙ ap (λ q. q ∷ it.tail) (sym is) in
    record {
      next = r;
      added = recounted proc old r new n added;
      left = left ∙ ap (λ rs. r ∷ rs) (sym (added.left tables before.database it.tail rise left));
      asked = subst (λ ps. AskedFor ps (writes_in old.log.records) before after) (ap first_preds left) asked;
    }
