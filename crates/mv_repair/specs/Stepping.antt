-- Defines one step of a repair. This project's own.
use Rattle.std.specs.Prelude.{◌<◌, List, []}
use Rattle.mv_values.specs.Tables.{Tables}
use Rattle.mv_record.specs.declared.record.Record.{Record}
use Rattle.mv_view.specs.Viewing.{Sight}
use Rattle.mv_graph.specs.declared.graph.Graph.{Graph}
use Rattle.mv_exec.specs.declared.task.Task.{Task}
use Rattle.mv_exec.specs.Running.{count_left}
use Rattle.mv_history.specs.declared.change.Change.{Change}
use Rattle.mv_repair.specs.declared.walk.OldRun.{OldRun}
use Rattle.mv_repair.specs.declared.walk.NewRun.{NewRun}
use Rattle.mv_repair.specs.Repairing.{HasQueried}
use Rattle.mv_repair.specs.Walking.{IsUnderway}

-- a repair is under way, from some records and changes
pub record IsOnWay (g : Graph) (db : Tables) (task : Task) (old : OldRun) (new : NewRun) : Type 0 where
  pub changes : List Change
  pub os : List Record
  pub underway : IsUnderway g changes db os task old new

-- a repair has gone on by one record: less is left of the full run, and the view was queried for that record alone
pub record HasStepped (g : Graph) (db : Tables) (task : Task) (old : OldRun) (new : NewRun) (task' : Task) (old' : OldRun) (new' : NewRun) (before after : Sight) : Type 0 where
  pub went : (changes : List Change) (os : List Record) → IsUnderway g changes db os task old new → IsUnderway g changes db os task' old' new'
  pub queried : (changes : List Change) (os : List Record) (start : Sight) → IsUnderway g changes db os task old new
      → HasQueried os task.log.records changes [] start before → HasQueried os task'.log.records changes [] start after
  pub less : count_left g db task' < count_left g db task
