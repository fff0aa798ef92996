-- Defines what is known of the next record before its statement is executed.
use Rattle.std.specs.Prelude.{◌≡◌, ℕ, Bool, not, nat_lt, List, [], ◌∷◌, ◌++◌, Option, Some, None, map, length, slice_get}
use Rattle.std.specs.Option.{option_or}
use Rattle.mv_values.specs.declared.schema.TableInfo.{TableInfo}
use Rattle.mv_values.specs.Tables.{Tables}
use Rattle.mv_catalog.specs.declared.resolved.ProcInfo.{ProcInfo}
use Rattle.mv_catalog.specs.declared.resolved.RStmt.{RStmt}
use Rattle.mv_record.specs.declared.record.Record.{Record}
use Rattle.mv_recorded.specs.Reading.{loop_of}
use Rattle.mv_recorded.specs.Recorded.{Site}
use Rattle.mv_graph.specs.declared.graph.Step.{Step}
use Rattle.mv_graph.specs.Steps.{TellsOf}
use Rattle.mv_exec.specs.declared.frames.Frame.{Frame}
use Rattle.mv_exec.specs.Peeked.{Ahead}
use Rattle.mv_exec.specs.declared.task.Task.{Task}
use Rattle.mv_exec.specs.Frames.{block_of, holder_of, frame_due}
use Rattle.mv_exec.specs.Tasks.{left_of, definer_in}
use Rattle.mv_exec.specs.Running.{Peeks}

-- a call continues at this frame, before this statement. If a turn is due, it is the frame in that turn.
pub record IsNextFrame (proc : ProcInfo) (task : Task) (frame : Frame) (s : RStmt) (turn : Bool) : Type 0 where
  pub outer : List Frame
  pub last : Frame
  pub are : task.frames ≡ outer ++ last ∷ []
  pub due : nat_lt last.at (length (block_of proc (holder_of proc None outer) last)) ≡ not turn
  pub is : frame ≡ frame_due turn last
  pub stands : slice_get (block_of proc (holder_of proc None outer) frame) frame.at ≡ Some s

-- a call continues at this frame, before the statement of this step
pub record IsNextStep (proc : ProcInfo) (task : Task) (frame : Frame) (step : Step) (turn : Bool) : Type 0 where
  pub s : RStmt
  pub is : IsNextFrame proc task frame s turn
  pub tells : TellsOf proc s step

-- what the record of a statement has before it is executed: the statement is at a site, has a number, and reads these
-- variables
abbrev pub ahead_at : List (Option ℕ) → Site → ℕ → List ℕ → Ahead
ahead_at definers site n xs = record {
  spot = record { statement = n; turns = site.turns };
  parent = site.parent;
  reads = map (λ x. record { slot = x; definer = option_or (loop_of x site.loops) (definer_in definers x) }) xs;
}

-- this is ahead of the task, on any database
abbrev pub PeeksLeft : ProcInfo → Task → Option Ahead → Type 0
PeeksLeft proc task ahead = (tables : List TableInfo) (db : Tables) → Peeks ahead (left_of proc tables task db)

-- the place, controller and definers of a record
abbrev pub ahead_in : Record → Ahead
ahead_in r = record { spot = r.spot; parent = r.parent; reads = r.reads }
