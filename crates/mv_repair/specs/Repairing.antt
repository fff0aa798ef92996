-- Defines what the contract of a repair says: the runs that it needs, and how often it queries the view. That a repair
-- executes only what depends on a change is the paper's (Dashti, Basil John, Shaikhha and Koch, SIGMOD 2017). The
-- bounds on the queries are this project's own.
use Rattle.std.specs.Prelude.{◌≡◌, true, not, List, ◌++◌, All}
use Rattle.std.specs.List.{filter, flat_map}
use Rattle.mv_values.specs.declared.calls.Call.{Call}
use Rattle.mv_values.specs.declared.pred.Pred.{Pred}
use Rattle.mv_values.specs.Tables.{Tables}
use Rattle.mv_record.specs.declared.record.Record.{Record}
use Rattle.mv_record.specs.Runs.{writes_in}
use Rattle.mv_view.specs.Viewing.{Sight}
use Rattle.mv_effect.specs.Looking.{AskedFor}
use Rattle.mv_graph.specs.declared.graph.Graph.{Graph}
use Rattle.mv_exec.specs.declared.task.Task.{Task}
use Rattle.mv_exec.specs.Running.{IsTaskOn}
use Rattle.mv_history.specs.declared.change.Change.{Change}
use Rattle.mv_history.specs.Kept.{with_paths, among, kept_paths}
use Rattle.mv_soundness.specs.Laws.{AreRuns}
use Rattle.mv_changes.specs.declared.recent.Committed.{Committed}
use Rattle.mv_changes.specs.Admitting.{AreAdmitted}
use Rattle.mv_changes.specs.Commits.{changes_in}

-- the changes of commits in one list, in the order of the commits
abbrev pub changes_since : List Committed → List Change
changes_since commits = flat_map (λ changes. changes) (changes_in commits)

-- the task is a call that has ended on some database. The changes lead from that database to the new one, and the
-- predicates of its records match their rows only under keys that they admit
pub record IsRepairable (g : Graph) (task : Task) (changes : List Change) (new : Tables) : Type 0 where
  pub call : Call
  pub old : Tables
  pub on : IsTaskOn g call old task
  pub ended : task.ended ≡ true
  pub runs : AreRuns g.tables g.procedure call old new changes
  pub admitted : All (AreAdmitted changes) task.log.records

-- the predicates of the records of the new run that a repair executes
abbrev pub queried : List Record → List Record → List Change → List Pred
queried old new changes = flat_map (λ r. r.it.preds) (filter (λ r. not (among (kept_paths old new changes) r.path)) (with_paths new))

-- the view was queried at most once for each of them and for each of those of a record that was tried in vain, and then
-- for each key that records of either run wrote
abbrev pub HasQueried : List Record → List Record → List Change → List Pred → Sight → Sight → Type 0
HasQueried old new changes vain before after = AskedFor (queried old new changes ++ vain) (writes_in (old ++ new)) before after
