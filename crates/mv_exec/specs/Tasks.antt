-- Defines what a running call has executed, and what it will still execute. This project's own.
use Rattle.std.specs.Prelude.{◌≡◌, ◌↔◌, ◌<◌, ◌≤◌, ℕ, Bool, true, false, List, [], ◌∷◌, ◌++◌, Option, Some, None, length, take, slice_get}
use Rattle.mv_values.specs.declared.calls.Call.{Call}
use Rattle.mv_values.specs.declared.schema.TableInfo.{TableInfo}
use Rattle.mv_values.specs.Patching.{applied}
use Rattle.mv_values.specs.Tables.{Tables}
use Rattle.mv_catalog.specs.declared.resolved.ProcInfo.{ProcInfo}
use Rattle.mv_catalog.specs.declared.resolved.RStmt.{RStmt}
use Rattle.mv_eval.specs.declared.state.Env.{Env}
use Rattle.mv_eval.specs.declared.state.State.{State}
use Rattle.mv_eval.specs.TableAfter.{entered}
use Rattle.mv_record.specs.declared.record.Record.{Record}
use Rattle.mv_record.specs.Runs.{lines_in, writes_in}
use Rattle.mv_recorded.specs.Reading.{last_place, sets_variable}
use Rattle.mv_log.specs.Logged.{Logged}
use Rattle.mv_exec.specs.declared.frames.Holder.{Holder}
use Rattle.mv_exec.specs.declared.frames.Holder.TheVariants as by
use Rattle.mv_exec.specs.declared.frames.Frame.{Frame}
use Rattle.mv_exec.specs.declared.task.Task.{Task}
use Rattle.mv_exec.specs.Left.{left}
use Rattle.mv_exec.specs.Env.{at_beginning}
use Rattle.mv_exec.specs.Frames.{jobs_left, AreFilled, AreNumbered, EndsLeft, with_next_row}

-- the variables with which the call began
abbrev pub beginning : Task → Env
beginning task = task.variables.initial

-- its initial state is that of a call of the procedure
abbrev pub BeginsCall : Task → ProcInfo → Call → Type 0
BeginsCall task proc call = (beginning task ≡ entered proc call) × (task.parameters ≡ length call.arguments)

-- the state after its records, if the call began on this database
abbrev pub state_of : Task → Tables → State
state_of task db = record { env = task.variables.env; tables = applied (writes_in task.log.records) db; lines = lines_in task.log.records }

-- before the first statement of a procedure
abbrev pub first_frame : Frame
first_frame = record { holder = by.Procedure; first = 1; at = 0; number = 1 }

abbrev pub none_in : List RStmt → Bool
none_in [] = true
none_in (s ∷ ss) = false

-- the position of a call: no frame after it has ended
abbrev pub standing : Bool → List Frame → List Frame
standing true ps = []
standing false ps = ps

abbrev pub frames_of : Task → List Frame
frames_of task = standing task.ended task.frames

-- the records that it will still add on a database
abbrev pub left_of : ProcInfo → List TableInfo → Task → Tables → List Record
left_of proc tables task db = left tables task.parameters (jobs_left proc task.log.records (frames_of task)) task.log.records (state_of task db)

-- all its records on a database: those that it has, and those that it will still add
abbrev pub run_of : ProcInfo → List TableInfo → Task → Tables → List Record
run_of proc tables task db = task.log.records ++ left_of proc tables task db

-- How its parts agree

-- the number in a list of numbers, none past its end
abbrev pub number_in : Option (Option ℕ) → Option ℕ
number_in None = None
number_in (Some o) = o

abbrev pub definer_in : List (Option ℕ) → ℕ → Option ℕ
definer_in definers x = number_in (slice_get definers x)

-- a frame is held by an earlier record
abbrev pub IsHeldBefore : ℕ → Holder → Type 0
IsHeldBefore n by.Procedure = Unit {0}
IsHeldBefore n (by.Branch number b) = number < n
IsHeldBefore n (by.Loop number x k) = number < n

abbrev pub AreHeldBefore : ℕ → List Frame → Type 0
AreHeldBefore n [] = Unit {0}
AreHeldBefore n (p ∷ ps) = IsHeldBefore n p.holder × AreHeldBefore n ps

pub record IsTask (proc : ProcInfo) (task : Task) : Type 0 where
  pub filled : AreFilled proc None (frames_of task)
  pub numbers : AreNumbered proc None (frames_of task)
  pub ends : EndsLeft proc task.log.records (frames_of task)
  pub holders : AreHeldBefore (length task.log.records) (frames_of task)
  pub some : 0 < length task.frames
  pub empty : task.empty ≡ none_in proc.body
  pub definers : (x : ℕ) → definer_in task.definers x ≡ last_place (sets_variable x) 0 task.log.records
  pub counted : task.executed ≤ length task.log.records

-- a call at an equal position: it has the same records, and will still add the same
pub record StandsAsBefore (proc : ProcInfo) (old new : Task) : Type 0 where
  pub parameters : new.parameters ≡ old.parameters
  pub records : new.log.records ≡ old.log.records
  pub executed : new.executed ≡ old.executed
  pub beginning : beginning new ≡ beginning old
  pub left : (tables : List TableInfo) (db : Tables) → left_of proc tables new db ≡ left_of proc tables old db

-- the call in the next turn: with the loop's row, and at this frame inside these
abbrev pub in_turn_at : Task → List Frame → Frame → Frame → Task
in_turn_at task outer last frame =
    let was = task.variables in
    record task { variables = record was { env = with_next_row task.log.records last.holder was.env }; frames = outer ++ frame ∷ [] }

-- the call at this frame inside these; if a turn is due, in that turn
abbrev pub task_at : Task → List Frame → Frame → Frame → Bool → Task
task_at task outer last frame true = in_turn_at task outer last frame
task_at task outer last frame false = task

-- a call that has these parameters, variables and log, and has executed nothing
abbrev pub fresh_task : ℕ → Env → Logged → Bool → Task
fresh_task params env log empty =
    record { parameters = params; variables = at_beginning env; log = log; executed = 0; definers = []; frames = first_frame ∷ []; ended = empty; empty = empty }

-- the flag is true exactly if no record is left, on any database
abbrev pub TellsEnd : ProcInfo → Task → Bool → Type 0
TellsEnd proc task b = (tables : List TableInfo) (db : Tables) → (b ≡ true) ↔ (left_of proc tables task db ≡ [])

-- only the outer frames stayed; something is left at the innermost of these, and nothing was left inside it
pub record IsTrimmed (proc : ProcInfo) (old new : Task) : Type 0 where
  pub rest : new ≡ record old { frames = new.frames; ended = new.ended }
  pub stay : ℕ
  pub front : frames_of new ≡ take stay old.frames
  pub left : jobs_left proc old.log.records (frames_of new) ≡ jobs_left proc old.log.records old.frames
  pub ends : EndsLeft proc old.log.records (frames_of new)
  pub some : 0 < length old.frames → 0 < length new.frames
