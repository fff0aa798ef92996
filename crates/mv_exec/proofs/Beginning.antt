-- A call before its first statement.
use Rattle.std.proofs.Common.{◌≡◌, ℕ, ◌<◌, Bool, true, false, ◌||◌, List, [], ◌∷◌, ◌++◌, Option, None, length, take, slice_set, refl, sym, ap, subst, ◌∙◌, arith}
use Rattle.std.proofs.lemmas.Bool.{lt-ltb}
use Rattle.mv_values.specs.declared.calls.Call.{Call}
use Rattle.mv_values.specs.declared.schema.TableInfo.{TableInfo}
use Rattle.mv_values.specs.Tables.{Tables}
use Rattle.mv_catalog.specs.declared.resolved.ProcInfo.{ProcInfo}
use Rattle.mv_catalog.specs.declared.resolved.RStmt.{RStmt}
use Rattle.mv_eval.specs.declared.state.Env.{Env}
use Rattle.mv_eval.specs.TableAfter.{entered, begun}
use Rattle.mv_recorded.specs.Recorded.{outside, recorded}
use Rattle.mv_log.specs.Logged.{Logged, empty as no_records}
use Rattle.mv_graph.proofs.Texts.{whole_text}
use Rattle.mv_exec.specs.declared.frames.Frame.{Frame}
use Rattle.mv_exec.specs.declared.task.Task.{Task}
use Rattle.mv_exec.specs.Left.{left}
use Rattle.mv_exec.specs.Env.{CallVariables, at_beginning}
use Rattle.mv_exec.specs.Frames.{block_of, holder_of, some_run, jobs_left, is_left, AreFilled, AreNumbered, EndsLeft}
use Rattle.mv_exec.specs.Tasks.{standing, first_frame, none_in, run_of, IsTask, AreHeldBefore, BeginsCall, fresh_task}
use Rattle.mv_exec.proofs.Leaving.{all_left}
use Rattle.mv_exec.proofs.Going.{same_run}
use Rattle.mv_exec.proofs.Framing.{no_last, same_last}

filled : (proc : ProcInfo) (body : List RStmt) → proc.body ≡ body → AreFilled proc None (standing (none_in body) (first_frame ∷ []))
filled proc [] e = tt
filled proc (s ∷ ss) e = (subst (λ (ss : List RStmt). 0 < length ss) (sym e) (omega arith), tt)

numbered : (proc : ProcInfo) (body : List RStmt) → AreNumbered proc None (standing (none_in body) (first_frame ∷ []))
numbered proc [] = tt
numbered proc (s ∷ ss) = ((whole_text proc, refl), tt)

ends : (proc : ProcInfo) (body : List RStmt) → proc.body ≡ body → EndsLeft proc [] (standing (none_in body) (first_frame ∷ []))
ends proc [] e outer p h = absurd (no_last outer p (sym h))
ends proc (s ∷ ss) e outer p h =
    let k : ([] ≡ outer) × (first_frame ≡ p) = same_last [] outer first_frame p h in
    subst (λ q. is_left [] (block_of proc (holder_of proc None outer) q) q ≡ true) k.1
    (ap (λ (bl : List RStmt). is_left [] bl first_frame) e ∙ ap (λ b. b || false) (lt-ltb 0 (length (s ∷ ss)) (omega arith)))

holders : (b : Bool) → AreHeldBefore 0 (standing b (first_frame ∷ []))
holders true = tt
holders false = (tt, tt)

jobs : (proc : ProcInfo) (body : List RStmt) → proc.body ≡ body → jobs_left proc [] (standing (none_in body) (first_frame ∷ [])) ≡ some_run outside 1 proc.body ++ []
jobs proc [] e = ap (λ ss. some_run outside 1 ss ++ []) (sym e)
jobs proc (s ∷ ss) e = refl

pub fresh_is_task : (proc : ProcInfo) (params : ℕ) (env : Env) (log : Logged) (empty : Bool) → log.records ≡ [] → empty ≡ none_in proc.body → IsTask proc (fresh_task params env log empty)
fresh_is_task proc params env log empty r e =
    subst (λ rs. IsTask proc (fresh_task params env (record log { records = rs }) empty)) (sym r)
    (subst (λ b. IsTask proc (fresh_task params env (record log { records = [] }) b)) (sym e)
    (record {
      filled = filled proc proc.body refl;
      numbers = numbered proc proc.body;
      ends = ends proc proc.body refl;
      holders = holders (none_in proc.body);
      some = omega arith;
      empty = refl;
      definers = λ x. refl;
      counted = omega arith;
    }))

pub fresh_run : (proc : ProcInfo) (tables : List TableInfo) (call : Call) (db : Tables) (params : ℕ) (env : Env) (log : Logged) (empty : Bool) → log.records ≡ [] → empty ≡ none_in proc.body
    → env ≡ entered proc call → params ≡ length call.arguments → run_of proc tables (fresh_task params env log empty) db ≡ recorded tables proc call db
fresh_run proc tables call db params env log empty r e v n =
    subst (λ rs. run_of proc tables (fresh_task params env (record log { records = rs }) empty) db ≡ recorded tables proc call db) (sym r)
    (subst (λ b. run_of proc tables (fresh_task params env (record log { records = [] }) b) db ≡ recorded tables proc call db) (sym e)
    (subst (λ w. run_of proc tables (fresh_task params w (record log { records = [] }) (none_in proc.body)) db ≡ recorded tables proc call db) (sym v)
    (subst (λ m. run_of proc tables (fresh_task m (entered proc call) (record log { records = [] }) (none_in proc.body)) db ≡ recorded tables proc call db) (sym n)
    (ap (λ js. left tables (length call.arguments) js [] (begun proc call db)) (jobs proc proc.body refl)
    ∙ (sym (same_run tables (length call.arguments) outside 1 proc.body [] [] (begun proc call db)) ∙ all_left tables proc call db)))))

pub only_first : (ps : List Frame) → 0 < length ps → slice_set (take 1 ps) 0 first_frame ≡ first_frame ∷ []
only_first [] lt = absurd (omega (arith, lt))
only_first (p ∷ ps) lt = refl

-- a task whose parts are those of a call that has done nothing
pub all_fresh : (params : ℕ) (variables : CallVariables) (env : Env) (log : Logged) (definers : List (Option ℕ)) (frames : List Frame) (empty : Bool)
    → variables ≡ at_beginning env → definers ≡ [] → frames ≡ first_frame ∷ []
    → (let t : Task = record { parameters = params; variables = variables; log = log; executed = 0; definers = definers; frames = frames; ended = empty; empty = empty } in t)
    ≡ fresh_task params env log empty
all_fresh params variables env log definers frames empty v d p = cc

-- the same of a task that is such a one
pub new_task : (proc : ProcInfo) (task : Task) (params : ℕ) (env : Env) (empty : Bool) → task ≡ fresh_task params env no_records empty → empty ≡ none_in proc.body → IsTask proc task
new_task proc task params env empty is none = subst (IsTask proc) (sym is) (fresh_is_task proc params env no_records empty refl none)

pub new_begins : (proc : ProcInfo) (call : Call) (task : Task) (params : ℕ) (env : Env) (empty : Bool) → task ≡ fresh_task params env no_records empty → env ≡ entered proc call → params ≡ length call.arguments
    → BeginsCall task proc call
new_begins proc call task params env empty is e n = subst (λ t. BeginsCall t proc call) (sym is) (e, n)

pub new_run : (proc : ProcInfo) (call : Call) (task : Task) (params : ℕ) (env : Env) (empty : Bool) → task ≡ fresh_task params env no_records empty → empty ≡ none_in proc.body → env ≡ entered proc call
    → params ≡ length call.arguments → (tables : List TableInfo) (db : Tables) → run_of proc tables task db ≡ recorded tables proc call db
new_run proc call task params env empty is none e n tables db =
    subst (λ t. run_of proc tables t db ≡ recorded tables proc call db) (sym is) (fresh_run proc tables call db params env no_records empty refl none e n)
