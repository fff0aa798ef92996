-- Defines all that public contracts say of running calls. This project's own.
use Rattle.std.specs.Prelude.{◌≡◌, ◌↔◌, ◌+◌, ℕ, Bool, true, false, List, [], ◌∷◌, ◌++◌, Option, Some, None, Result, Ok, Err, length}
use Rattle.std.specs.List.{flat_map}
use Rattle.mv_values.specs.declared.calls.Call.{Call}
use Rattle.mv_values.specs.declared.pred.Pred.{Pred}
use Rattle.mv_values.specs.Patching.{applied}
use Rattle.mv_values.specs.Tables.{KeysStand, Tables}
use Rattle.mv_eval.specs.TableAfter.{entered}
use Rattle.mv_record.specs.declared.record.Record.{Record}
use Rattle.mv_record.specs.Runs.{writes_in}
use Rattle.mv_record.specs.Writes.{AreRising}
use Rattle.mv_view.specs.Viewing.{Sight}
use Rattle.mv_record.specs.Databases.{IsDatabaseOf}
use Rattle.mv_effect.specs.Looking.{AskedFor}
use Rattle.mv_graph.specs.declared.graph.Graph.{Graph}
use Rattle.mv_graph.specs.Nodes.{meaning_of}
use Rattle.mv_exec.specs.declared.step.Stepped.{Stepped}
use Rattle.mv_exec.specs.declared.step.Stepped.TheVariants.{Ran, Ended}
use Rattle.mv_exec.specs.Peeked.{Ahead}
use Rattle.mv_exec.specs.declared.task.Task.{Task}
use Rattle.mv_exec.specs.Recording.{IsAtRest}
use Rattle.mv_exec.specs.Tasks.{IsTask, BeginsCall, left_of}

-- What a running call is

-- the full run of the call on a database adds these records after those of the task
abbrev pub HasLeft : Graph → Call → Tables → Task → List Record → Type 0
HasLeft g call db task rest = (meaning_of g call db).records ≡ task.log.records ++ rest

-- the task is this call of the graph, at some point of its run. What it keeps beside its records is private.
pub record IsTaskOf (g : Graph) (call : Call) (task : Task) : Type 0 where
  pub whole : IsTask g.procedure task
  pub rest : IsAtRest task.log
  pub begins : BeginsCall task g.procedure call
  pub fits : length call.arguments ≡ length g.procedure.params
  pub found : task.variables.env.found ≡ (entered g.procedure call).found
  pub left : (db : Tables) (rest : List Record) → AreRising db → HasLeft g call db task rest → left_of g.procedure g.tables task db ≡ rest
  pub keys : (db : Tables) (rest : List Record) → IsDatabaseOf g.tables db → HasLeft g call db task rest → KeysStand g.tables (applied (writes_in task.log.records) db)

-- the task is this call of the graph, and its records are the first ones of its full run on a database
pub record IsTaskOn (g : Graph) (call : Call) (db : Tables) (task : Task) : Type 0 where
  pub is : IsTaskOf g call task
  pub rest : List Record
  pub leaves : HasLeft g call db task rest

-- it is a running call of the graph
abbrev pub IsRunning : Graph → Task → Type 0
IsRunning g task = (call : Call) × IsTaskOf g call task

-- it is a running call of the graph whose records are the first ones of its full run on a database
abbrev pub IsRunningOn : Graph → Tables → Task → Type 0
IsRunningOn g db task = (call : Call) × IsTaskOn g call db task

-- it is the same call as before
abbrev pub IsSameCall : Graph → Task → Task → Type 0
IsSameCall g old new = (call : Call) → IsTaskOf g call old → IsTaskOf g call new

-- it is the same call as before, and on this database its records still are the first ones of its full run
abbrev pub IsSameCallOn : Graph → Tables → Task → Task → Type 0
IsSameCallOn g db old new = (call : Call) → IsTaskOn g call db old → IsTaskOn g call db new

-- what is public of the task is unchanged
pub record IsUnchanged (old new : Task) : Type 0 where
  pub records : new.log.records ≡ old.log.records
  pub executed : new.executed ≡ old.executed
  pub ended : new.ended ≡ old.ended

-- `Ended` if the task has ended, `Ran` otherwise
abbrev pub stepped : Bool → Stepped
stepped true = Ended
stepped false = Ran

-- how many records a call will still add on a database
abbrev pub count_left : Graph → Tables → Task → ℕ
count_left g db task = length (left_of g.procedure g.tables task db)

-- The next record

-- the first of these records has this place, controller and definers; if nothing is ahead, there are no records
abbrev pub Peeks : Option Ahead → List Record → Type 0
Peeks None rs = rs ≡ []
Peeks (Some ahead) [] = ⊥
Peeks (Some ahead) (r ∷ rs) = (r.spot ≡ ahead.spot) × (r.parent ≡ ahead.parent) × (r.reads ≡ ahead.reads)

-- this is ahead of the call, on each database where its records are the first ones of its full run
abbrev pub IsAhead : Graph → Task → Option Ahead → Type 0
IsAhead g task ahead = (call : Call) (db : Tables) (rest : List Record) → IsTaskOf g call task → AreRising db → HasLeft g call db task rest → Peeks ahead rest

-- a record has the content of another one: all but its place, its controller and its definers
abbrev pub HasContent : Record → Record → Type 0
HasContent given r = r ≡ record given { spot = r.spot; parent = r.parent; reads = r.reads }

-- a record with the content of the given one was added, and nothing was executed; its place, controller and definers
-- are those ahead
pub record HasAdopted (g : Graph) (old : Task) (given : Record) (new : Task) : Type 0 where
  pub next : Record
  pub records : new.log.records ≡ old.log.records ++ next ∷ []
  pub content : HasContent given next
  pub place : IsAhead g old (Some (record { spot = next.spot; parent = next.parent; reads = next.reads }))
  pub executed : new.executed ≡ old.executed

-- if a full run of the call continues with a record of this content, the rest of that run is left
abbrev pub GoesOnWith : Graph → Task → Record → Task → Type 0
GoesOnWith g old given new =
    (call : Call) (db : Tables) (r : Record) (rest : List Record) → IsTaskOf g call old → AreRising db → HasLeft g call db old (r ∷ rest) → HasContent given r → HasLeft g call db new rest

-- a record was added by executing its statement; the view was queried for its predicates, over the writes of the
-- records before it
pub record HasRun (old new : Task) (before after : Sight) : Type 0 where
  pub next : Record
  pub records : new.log.records ≡ old.log.records ++ next ∷ []
  pub executed : new.executed ≡ old.executed + 1
  pub asked : AskedFor next.preds (writes_in old.log.records) before after

-- the predicates of the first of these records
abbrev pub first_preds : List Record → List Pred
first_preds [] = []
first_preds (r ∷ rs) = r.preds

-- the predicates of the next record of the call on a database
abbrev pub preds_ahead : Graph → Tables → Task → List Pred
preds_ahead g db task = first_preds (left_of g.procedure g.tables task db)

-- the predicates of a record that was tried, if it was refused
abbrev pub if_refused : {A E : Type 0} → Result A E → List Pred → List Pred
if_refused (Ok x) ps = []
if_refused (Err e) ps = ps

-- the predicates of these records
abbrev pub preds_in : List Record → List Pred
preds_in rs = flat_map (λ r. r.preds) rs

-- records were added by executing their statements, and then one with these predicates may have been tried in vain; the
-- view was asked at most once for each predicate of all of them, and then for each key that the call has written
pub record HasRunTo (old new : Task) (vain : List Pred) (before after : Sight) : Type 0 where
  pub more : List Record
  pub records : new.log.records ≡ old.log.records ++ more
  pub executed : new.executed ≡ old.executed + length more
  pub asked : AskedFor (preds_in more ++ vain) (writes_in new.log.records) before after

-- Laws

-- a call has ended exactly if its full run adds nothing more, on each database where its records are the first ones of
-- that run
abbrev pub EndsExactly : Type 0
EndsExactly = (g : Graph) (call : Call) (db : Tables) (task : Task) (rest : List Record) → IsTaskOf g call task → AreRising db → HasLeft g call db task rest → (task.ended ≡ true) ↔ (rest ≡ [])
