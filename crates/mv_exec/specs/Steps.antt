-- Defines how a running call gets one more record. This project's own.
use Rattle.std.specs.Prelude.{◌≡◌, ℕ, List, [], ◌∷◌, ◌++◌, Some, length, take}
use Rattle.mv_values.specs.declared.schema.TableInfo.{TableInfo}
use Rattle.mv_values.specs.Patching.{applied}
use Rattle.mv_values.specs.Tables.{KeysStand, Tables}
use Rattle.mv_catalog.specs.declared.resolved.ProcInfo.{ProcInfo}
use Rattle.mv_catalog.specs.declared.resolved.RStmt.{RStmt, out-RStmt}
use Rattle.mv_record.specs.declared.record.Record.{Record}
use Rattle.mv_record.specs.Runs.{writes_in}
use Rattle.mv_record.specs.Writes.{AreRising}
use Rattle.mv_recorded.specs.Effect.{with_slots}
use Rattle.mv_log.specs.Logged.{Logged}
use Rattle.mv_view.specs.Viewing.{Sight}
use Rattle.mv_effect.specs.Looking.{AskedFor}
use Rattle.mv_exec.specs.declared.frames.Frame.{Frame}
use Rattle.mv_exec.specs.declared.task.Task.{Task}
use Rattle.mv_exec.specs.declared.recording.Origin.{Origin}
use Rattle.mv_exec.specs.declared.recording.Origin.TheVariants.{Executed}
use Rattle.mv_exec.specs.Ahead.{PeeksLeft, ahead_in}
use Rattle.mv_exec.specs.Keeping.{with_room, define, slot_room}
use Rattle.mv_exec.specs.Moves.{after_empty_loop}
use Rattle.mv_exec.specs.Recording.{closed}
use Rattle.mv_exec.specs.Running.{HasContent}
use Rattle.mv_exec.specs.Tasks.{beginning, left_of, definer_in}

-- The effect of a record on a call

-- the call with this log
abbrev pub with_log : Task → Logged → Task
with_log task log = record task { log = log }

-- the call with the changes of a record of this statement, which has this number, and with frames inside it
abbrev pub changed_by : Task → ℕ → RStmt → Record → List Frame → Task
changed_by task number s r inner = let was = task.variables in record task {
  variables = record was { env = after_empty_loop (out-RStmt s) r.rows (with_slots r.sets was.env) };
  definers = define (with_room (slot_room r.sets) task.definers) r.sets number;
  frames = task.frames ++ inner;
}

-- the call with the record of its open statement and that record's changes, at these frames
abbrev pub with_record : Task → Origin → RStmt → Record → List Frame → Task
with_record task origin s r frames =
    let changed : Task = changed_by (with_log task (closed task.log origin r)) (length task.log.records) s r [] in
    record changed { frames = frames }

-- some frames were added, and nothing else changed but the room for definers
pub record HasFronts (old new : Task) : Type 0 where
  pub rest : new ≡ record old { definers = new.definers; frames = new.frames }
  pub definers : (x : ℕ) → definer_in new.definers x ≡ definer_in old.definers x
  pub frames : take (length old.frames) new.frames ≡ old.frames

-- nothing changed but the room for definers and the open statement; from which number on past records may be kept is
-- unchanged too if none should have been
pub record IsWidened (origin : Origin) (old new : Task) : Type 0 where
  pub rest : new ≡ record old { log = new.log; definers = new.definers }
  pub records : new.log.records ≡ old.log.records
  pub past : new.log.past ≡ old.log.past
  pub kept : origin ≡ Executed → new.log.kept ≡ old.log.kept
  pub same : (x : ℕ) → definer_in new.definers x ≡ definer_in old.definers x

-- The call after it

-- the record was added: if it was the next one, what comes after it is left, and each row stays under its own key
pub record HasAddedRecord (proc : ProcInfo) (old : Task) (r : Record) (new : Task) : Type 0 where
  pub parameters : new.parameters ≡ old.parameters
  pub records : new.log.records ≡ old.log.records ++ r ∷ []
  pub beginning : beginning new ≡ beginning old
  pub left : (tables : List TableInfo) (db : Tables) (tail : List Record) → AreRising db → left_of proc tables old db ≡ r ∷ tail → left_of proc tables new db ≡ tail
  pub keys : (tables : List TableInfo) (db : Tables) (tail : List Record) → AreRising db → left_of proc tables old db ≡ r ∷ tail
      → KeysStand tables (applied (writes_in old.log.records) db) → KeysStand tables (applied (writes_in new.log.records) db)

-- a record with the content of the given one was added at the next statement
pub record HasAddedNext (proc : ProcInfo) (old : Task) (given : Record) (new : Task) : Type 0 where
  pub next : Record
  pub content : HasContent given next
  pub ahead : PeeksLeft proc old (Some (ahead_in next))
  pub added : HasAddedRecord proc old next new

-- the next record of the run on a view's database was added; the view was queried for its predicates, over the writes
-- of earlier records
pub record HasExecuted (tables : List TableInfo) (proc : ProcInfo) (old new : Task) (before after : Sight) : Type 0 where
  pub next : Record
  pub added : HasAddedRecord proc old next new
  pub left : left_of proc tables old before.database ≡ next ∷ left_of proc tables new before.database
  pub asked : AskedFor next.preds (writes_in old.log.records) before after
