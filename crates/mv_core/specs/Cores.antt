-- Defines what a core keeps beside its history: the tables after each commit, and running calls. This project's own.
use Rattle.std.specs.Prelude.{◌≡◌, ◌⊎◌, ◌<◌, ◌≤◌, ◌+◌, ℕ, Bool, true, false, not, List, [], ◌∷◌, ◌++◌, Option, Some, None, Result, Ok, Err, length, slice_get}
use mathlib.Core.List.{IsPrefix}
use Rattle.mv_values.specs.declared.memory.NoMemory.{NoMemory}
use Rattle.mv_values.specs.declared.calls.Call.{Call}
use Rattle.mv_values.specs.Tables.{Tables}
use Rattle.mv_record.specs.declared.record.Record.{Record}
use Rattle.mv_record.specs.Databases.{IsDatabaseOf}
use Rattle.mv_journal.specs.declared.event.Event.{Event}
use Rattle.mv_journal.specs.declared.event.Event.TheVariants.{B, S, A, M, C, X, R, G}
use Rattle.mv_view.specs.declared.view.Refused.{Refused}
use Rattle.mv_view.specs.declared.view.Refused.TheVariants as refused
use Rattle.mv_view.specs.Viewing.{Sight}
use Rattle.mv_graph.specs.declared.graph.Graph.{Graph}
use Rattle.mv_exec.specs.declared.step.Stepped.{Stepped}
use Rattle.mv_exec.specs.declared.task.Task.{Task}
use Rattle.mv_exec.specs.Running.{IsTaskOf, IsTaskOn, stepped}
use Rattle.mv_repair.specs.Repairing.{IsRepairable}
use Rattle.mv_history.specs.declared.change.Change.{Change}
use Rattle.mv_history.specs.declared.change.Hit.{Hit}
use Rattle.mv_lawful.specs.Batch.{Batch, table_at, records_at, hit_of}
use Rattle.mv_lawful.specs.declared.fault.EventFault.{EventFault}
use Rattle.mv_lawful.specs.declared.fault.EventFault.TheVariants.{Stale, Conflict}
use Rattle.mv_lawful.specs.Lawful.{RoundStart, Live, Schedule, used, has_step, refusal}
use Rattle.mv_lawful.specs.Rounds.{WithinRounds, last_round_start, last_number, rounds_of, repair_run}
use Rattle.mv_store.specs.Stored.{Versioned, database_at, own_writes}
use Rattle.mv_store.specs.Changes.{HasStamped}
use Rattle.mv_core.specs.declared.engine.Attempt.{Attempt}
use Rattle.mv_core.specs.declared.engine.Attempt.TheVariants as attempt
use Rattle.mv_script.specs.declared.script.CompiledScript.{CompiledScript}
use Rattle.mv_script.specs.Scripts.{IsCallOf, IsCompiledScript, batch_of}
use Rattle.mv_core.specs.declared.tasks.Running.{Running}
use Rattle.mv_core.specs.Calls.{IsLive, IsLiveCall, due_number}
pub use Rattle.mv_core.specs.Books.{IsStaleAt, HasRefused, HasAnswered}
use Rattle.mv_core.specs.Books.{Booked, batch_in, Made, IsSame, IsSettled, HaveNumbers, AreRecordsOf, IsReader, IsNoReader}

-- Tables

-- the store has the tables of a history after each commit from low on, and no call has written without committing
pub record IsStored (s : CompiledScript) (order : List ℕ) (low : ℕ) (store : Versioned) : Type 0 where
  pub script : IsCompiledScript s
  pub last : store.last ≡ length order
  pub low_is : store.low ≡ low
  pub below : low ≤ length order
  pub reads : (n : ℕ) → low ≤ n → n ≤ length order → database_at store n ≡ table_at (batch_of s) order n
  pub own : (call : ℕ) → own_writes store call ≡ []

abbrev pub IsStoreOf : Booked → Versioned → Type 0
IsStoreOf b store = IsStored b.script b.schedule.order b.schedule.low store

-- a call has put its writes for its commit, which is the next one: once they are stamped, the store has the tables of the
-- history with it
pub record IsPrepared (b : Booked) (c : ℕ) (store : Versioned) : Type 0 where
  pub last : store.last ≡ length b.schedule.order
  pub stamped : (n : ℕ) (new : Versioned) → n ≡ length b.schedule.order + 1 → HasStamped c n store new → IsStored b.script (b.schedule.order ++ c ∷ []) b.schedule.low new

-- Views

-- the view shows the tables of a history after n commits
abbrev pub Shows : Booked → ℕ → Sight → Type 0
Shows b n sight = sight.database ≡ table_at (batch_in b) b.schedule.order n

-- it shows the tables at the start of a live call
abbrev pub ShowsStart : Booked → ℕ → Sight → Type 0
ShowsStart b c sight = (l : Live) → IsLive b.schedule c l → Shows b l.start sight

-- it shows the tables after all commits
abbrev pub ShowsLast : Booked → Sight → Type 0
ShowsLast b sight = Shows b (length b.schedule.order) sight

-- Running calls

-- the task is the call of a number, and its records are the first ones of its full run on a database
abbrev pub RunsOn : CompiledScript → ℕ → Tables → Task → Type 0
RunsOn s c db task = (call : Call) (g : Graph) → IsCallOf s c call g → IsTaskOn g call db task

-- the task is the call of a number, at any point of its run
abbrev pub IsTaskFor : CompiledScript → ℕ → Task → Type 0
IsTaskFor s c task = (call : Call) (g : Graph) → IsCallOf s c call g → IsTaskOf g call task

-- the call has run whole, and the changes lead from the database of that run to the new one
abbrev pub CanRepair : CompiledScript → ℕ → Task → List Change → Tables → Type 0
CanRepair s c task changes new = (call : Call) (g : Graph) → IsCallOf s c call g → IsRepairable g task changes new

-- the database is one of the tables over which the call runs
abbrev pub IsDatabaseIn : CompiledScript → ℕ → Tables → Type 0
IsDatabaseIn s c db = (call : Call) (g : Graph) → IsCallOf s c call g → IsDatabaseOf g.tables db

-- one record was added by executing its statement
pub record HasRunOne (old new : Task) : Type 0 where
  pub records : length new.log.records ≡ length old.log.records + 1
  pub executed : new.executed ≡ old.executed + 1

-- records were added, and each of them was executed
pub record CountsAll (old new : Task) : Type 0 where
  pub executed : new.executed + length old.log.records ≡ old.executed + length new.log.records
  pub more : length old.log.records ≤ length new.log.records

-- a call has rounds, each of which began after at most n commits; the last of them has the call's start
pub record HasRoundStarts (n : ℕ) (l : Live) : Type 0 where
  pub first : RoundStart
  pub rest : List RoundStart
  pub round_starts : l.round_starts ≡ first ∷ rest
  pub last : last_round_start l.round_starts ≡ l.start
  pub within : WithinRounds n l.round_starts
  pub past : l.start ≤ n

-- the count, or else this number
abbrev pub count_or : Option ℕ → ℕ → ℕ
count_or None n = n
count_or (Some k) n = k

-- the number that Runs gives a call's last round is this count, or else that of the records of a full run
abbrev pub IsCounted : Batch → List ℕ → ℕ → Live → Option ℕ → Type 0
IsCounted w order c l count = last_number (rounds_of w order c l.round_starts) ≡ Some (count_or count (length (records_at w order l.start c)))

-- a live call's task: its records are the first ones of a full run at the call's start. In a first round it executed them
-- all. If the number of that round isn't known yet, they are no fewer than the statements that the journal names
pub record IsLiveTask (s : CompiledScript) (order : List ℕ) (c : ℕ) (l : Live) (running : Running) : Type 0 where
  pub runs : RunsOn s c (table_at (batch_of s) order l.start) running.task
  pub counted : IsCounted (batch_of s) order c l running.count
  pub executed : used l ≡ 0 → running.task.executed ≡ length running.task.log.records
  pub steps : running.count ≡ None → used l ≡ 0 → l.steps ≤ length running.task.log.records
  pub round_starts : HasRoundStarts (length order) l

-- the same of the call of a number, if it is live
abbrev pub IsTaskIn : Booked → ℕ → Running → Type 0
IsTaskIn b c running = (l : Live) → IsLive b.schedule c l → IsLiveTask b.script b.schedule.order c l running

-- the task ran on, in the same round
pub record HasRunOn (old new : Running) : Type 0 where
  pub count : new.count ≡ old.count
  pub task : CountsAll old.task new.task

-- a live call of a script, and its task
pub record IsRunningIn (b : Booked) (c : ℕ) (running : Running) : Type 0 where
  pub script : IsCompiledScript b.script
  pub live : IsLiveCall b.schedule c
  pub number : c < length b.script.calls
  pub task : IsTaskIn b c running

-- the task was repaired: it has run whole after all commits, and executed what a repair from the call's start executes
pub record IsRepaired (s : CompiledScript) (order : List ℕ) (c : ℕ) (l : Live) (running : Running) : Type 0 where
  pub runs : RunsOn s c (table_at (batch_of s) order (length order)) running.task
  pub records : running.task.log.records ≡ records_at (batch_of s) order (length order) c
  pub executed : running.task.executed ≡ repair_run (batch_of s) order c l.start (length order)
  pub count : running.count ≡ Some running.task.executed

-- each live call has its task
pub record HasTasks (s : CompiledScript) (schedule : Schedule) (tasks : List (Option Running)) : Type 0 where
  pub few : length schedule.calls ≤ length s.calls
  pub count : length tasks ≡ length schedule.calls
  pub running : (c : ℕ) (l : Live) → IsLive schedule c l → (running : Running) × (slice_get tasks c ≡ Some (Some running)) × IsLiveTask s schedule.order c l running

-- A core

-- what contracts see of a core: its history, and the tasks of the calls that have begun, by number. A call that is done
-- has none
pub record Cored : Type 0 where
  pub book : Booked
  pub tasks : List (Option Running)

-- the records of a task
abbrev pub records_by : Option (Option Running) → List Record
records_by None = []
records_by (Some None) = []
records_by (Some (Some running)) = running.task.log.records

-- the records of a call, as far as its task has run
abbrev pub records_in : Cored → ℕ → List Record
records_in k c = records_by (slice_get k.tasks c)

-- the records are the first ones of a full run of a live call at its start
abbrev pub AreFirstOf : Booked → ℕ → List Record → Type 0
AreFirstOf b c rs = (l : Live) → IsLive b.schedule c l → IsPrefix rs (records_at (batch_in b) b.schedule.order l.start c)

-- a live call's task has run whole at its start
abbrev pub HasAllRecords : Cored → ℕ → Type 0
HasAllRecords k c = AreRecordsOf k.book c (records_in k c)

-- each other call has the same task as before
abbrev pub KeepsOtherTasks : ℕ → Cored → Cored → Type 0
KeepsOtherTasks c old new = (d : ℕ) → (d ≡ c → ⊥) → slice_get new.tasks d ≡ slice_get old.tasks d

-- its store has the tables of its history, and each live call has its task. Only a first round may lack its number
pub record IsCore (b : Booked) (store : Versioned) (ts : List (Option Running)) : Type 0 where
  pub stored : IsStoreOf b store
  pub numbers : HaveNumbers b
  pub tasks : HasTasks b.script b.schedule ts

-- the records are those of the latest commit: of a full run of its call on the tables before it
abbrev pub AreOfLast : Booked → List Record → Type 0
AreOfLast b rs = (order : List ℕ) (c : ℕ) → b.schedule.order ≡ order ++ c ∷ [] → rs ≡ records_at (batch_in b) order (length order) c

-- the task of the latest commit is kept
abbrev pub KeepsLast : Booked → Option Running → Type 0
KeepsLast b last = 0 < length b.schedule.order → (running : Running) × (last ≡ Some running) × AreOfLast b running.task.log.records

-- a call that was repaired or moved has run whole
abbrev pub HasRunWhole : Event → Cored → Type 0
HasRunWhole (A c) k = HasAllRecords k c
HasRunWhole (M c) k = HasAllRecords k c
HasRunWhole (B c) k = Unit {0}
HasRunWhole (S c) k = Unit {0}
HasRunWhole (C c) k = Unit {0}
HasRunWhole (X c) k = Unit {0}
HasRunWhole (R c) k = Unit {0}
HasRunWhole G k = Unit {0}

-- Results

-- the call is in its first round, which has a statement left
abbrev pub HasStep : Booked → ℕ → Type 0
HasStep b c = (l : Live) → IsLive b.schedule c l → has_step (batch_in b) b.schedule c l ≡ true

-- its statements have run: it isn't in its first round, or that has no statement left
abbrev pub HasEnded : Booked → ℕ → Type 0
HasEnded b c = (l : Live) → IsLive b.schedule c l → has_step (batch_in b) b.schedule c l ≡ false

-- whether a call is live and has a step
abbrev pub MayStep : Bool → Booked → ℕ → Type 0
MayStep true b c = IsLiveCall b.schedule c × HasStep b c
MayStep false b c = HasEnded b c

-- the next call began, or every call has begun
abbrev pub HasBegunCall : Result (Option ℕ) NoMemory → Booked → Booked → Type 0
HasBegunCall (Ok (Some c)) old new = Made (B c) old new
HasBegunCall (Ok None) old new = (length old.schedule.calls ≡ length old.script.calls) × IsSame old new
HasBegunCall (Err e) old new = IsSame old new

-- the next call has a task without records; or there is no other task
abbrev pub BeginsTask : Result (Option ℕ) NoMemory → Cored → Cored → Type 0
BeginsTask (Ok (Some c)) old new = (records_in new c ≡ []) × KeepsOtherTasks c old new
BeginsTask (Ok None) old new = new.tasks ≡ old.tasks
BeginsTask (Err e) old new = new.tasks ≡ old.tasks

-- exactly one statement of a live call was executed, and added one record. But if the task has a record that the journal
-- doesn't name yet, nothing was executed
pub record RunsOne (c : ℕ) (old new : Cored) : Type 0 where
  pub before : Running
  pub after : Running
  pub had : slice_get old.tasks c ≡ Some (Some before)
  pub has : slice_get new.tasks c ≡ Some (Some after)
  pub one : (l : Live) → IsLive old.book.schedule c l → length before.task.log.records ≤ l.steps → HasRunOne before.task after.task
  pub named : (l : Live) → IsLive old.book.schedule c l → l.steps < length before.task.log.records → after ≡ before

-- a call that is hit has run whole
abbrev pub RunsWhole : ℕ → Attempt → Cored → Type 0
RunsWhole c (attempt.Committed n) k = Unit {0}
RunsWhole c (attempt.Hit number commit) k = HasAllRecords k c
RunsWhole c (attempt.Stale start low) k = Unit {0}

-- `Ended` if its first run has no statement left
abbrev pub TellsStep : Booked → ℕ → Stepped → Type 0
TellsStep b c it = (l : Live) → IsLive b.schedule c l → it ≡ stepped (not (has_step (batch_in b) b.schedule c l))

-- a statement was executed, and `Ended` says that none is left
abbrev pub HasStepped : ℕ → Result Stepped Refused → Booked → Booked → Type 0
HasStepped c (Ok it) old new = Made (S c) old new × TellsStep new c it
HasStepped c (Err why) old new = HasRefused c why old new

-- a commit after the call's start hits one of its records; these are the least such record, and the first such commit
pub record IsHitAt (b : Booked) (c : ℕ) (hit : Hit) : Type 0 where
  pub live : Live
  pub is_live : IsLive b.schedule c live
  pub refused : refusal (batch_in b) b.schedule (C c) ≡ Some Conflict
  pub hit_is : hit_of (batch_in b) b.schedule.order live.start c ≡ Some hit

-- the call committed, or nothing happened
abbrev pub HasTried : ℕ → Result Attempt NoMemory → Booked → Booked → Type 0
HasTried c (Ok (attempt.Committed n)) old new = Made (C c) old new × (n ≡ length old.schedule.order + 1)
HasTried c (Ok (attempt.Hit number commit)) old new = IsHitAt old c (record { number = number; commit = commit }) × IsSame old new
HasTried c (Ok (attempt.Stale start low)) old new = IsStaleAt old c start low × IsSame old new
HasTried c (Err e) old new = IsSame old new

-- a read only call was answered, or is stale; any other one has tried to commit
abbrev pub HasTriedToEnd : ℕ → Booked → Booked → Type 0
HasTriedToEnd c old new = (Made (R c) old new ⊎ ((start low : ℕ) × IsStaleAt old c start low)) ⊎ (IsNoReader old c × ((a : Attempt) × HasTried c (Ok a) old new))

-- the commit was made, or nothing happened
abbrev pub HasCommitted : Event → Result ℕ NoMemory → Booked → Booked → Type 0
HasCommitted e (Ok n) old new = Made e old new × (n ≡ length old.schedule.order + 1)
HasCommitted e (Err x) old new = IsSame old new

-- the call moved, in a round with its number, and committed in the same step; or nothing happened
abbrev pub HasMovedAndCommitted : ℕ → Result ℕ NoMemory → Booked → Booked → Type 0
HasMovedAndCommitted c (Ok n) old new = ((mid : Booked) × Made (M c) old mid × Made (C c) mid new × IsSettled mid c) × (n ≡ length old.schedule.order + 1)
HasMovedAndCommitted c (Err x) old new = IsSame old new

-- the law of journals allows the event, or refuses it only because the call is stale
abbrev pub IsAllowedIfFresh : Booked → Event → Type 0
IsAllowedIfFresh b e = (f : EventFault) → refusal (batch_in b) b.schedule e ≡ Some f → f ≡ Stale

-- the call was repaired, and executed as many records as Runs says
abbrev pub HasRepaired : ℕ → Result ℕ Refused → Booked → Booked → Type 0
HasRepaired c (Ok n) old new = Made (A c) old new × (due_number (batch_in new) new.schedule c ≡ Some n)
HasRepaired c (Err why) old new = HasRefused c why old new

-- the call was repaired and committed in one step
abbrev pub HasDecided : ℕ → Result ℕ Refused → Booked → Booked → Type 0
HasDecided c (Ok n) old new = Made (X c) old new × (n ≡ length old.schedule.order + 1)
HasDecided c (Err why) old new = HasRefused c why old new

-- old versions were collected, or nothing happened
abbrev pub HasCollected : Result (Unit {0}) NoMemory → Booked → Booked → Type 0
HasCollected (Ok x) old new = Made G old new
HasCollected (Err e) old new = IsSame old new

-- the call moved, and executed so many records
abbrev pub HasMovedUp : ℕ → Result ℕ NoMemory → Booked → Booked → Type 0
HasMovedUp c (Ok n) old new = Made (M c) old new × (n ≡ length (records_at (batch_in old) old.schedule.order (length old.schedule.order) c))
HasMovedUp c (Err e) old new = IsSame old new
