-- Defines what lies behind the gate's lock, and what a worker keeps of its call outside of it. This project's own.
use Rattle.std.specs.Prelude.{◌≡◌, ◌⊎◌, ◌<◌, ◌≤◌, ◌+◌, ℕ, Bool, true, false, List, [], ◌∷◌, Option, Some, None, Result, Ok, Err, length, slice_get}
use mathlib.Core.List.{IsPrefix}
use Rattle.mv_values.specs.declared.memory.NoMemory.{NoMemory}
use Rattle.mv_record.specs.declared.record.Record.{Record}
use Rattle.mv_changes.specs.declared.recent.Committed.{Committed}
use Rattle.mv_changes.specs.Commits.{changes_in}
use Rattle.mv_journal.specs.declared.event.Event.TheVariants.{B, A, M, C, X, R, G}
use Rattle.mv_journal.specs.declared.outcome.Mark.{Mark}
use Rattle.mv_journal.specs.declared.outcome.Mark.TheVariants.{Plain as Repaired, Exclusive, Moved}
use Rattle.mv_journal.specs.declared.outcome.Outcome.{Outcome}
use Rattle.mv_lawful.specs.Batch.{Batch, table_at, records_at, since}
use Rattle.mv_lawful.specs.Lawful.{RoundStart, Live, Schedule, Lawful, used, has_round}
use Rattle.mv_lawful.specs.Rounds.{repair_run, IsPast, IsBounded}
use Rattle.mv_lawful.specs.Outcomes.{outcome_of}
use Rattle.mv_seats.specs.Scripts.{BoardScript}
use Rattle.mv_exec.specs.declared.task.Task.{Task}
use Rattle.mv_script.specs.Scripts.{IsCompiledScript}
use Rattle.mv_shards.specs.Scripts.{script_in, batch}
use Rattle.mv_shards.specs.Reads.{Started}
use Rattle.mv_shards.specs.Ledgers.{Entered, AreLastChanges}
use Rattle.mv_core.specs.Calls.{IsLive, IsLiveCall}
use Rattle.mv_core.specs.Books.{Booked, batch_in, Made, IsSame, IsSettled, IsMissing, AreRecordsOf}
use Rattle.mv_core.specs.Cores.{RunsOn, HasRoundStarts}
use Rattle.mv_core.specs.Output.{reply_told, writes_told}
use Rattle.mv_gate.specs.declared.output.CallOutput.{CallOutput}
use Rattle.mv_gate.specs.declared.answers.Answer.{Answer}
use Rattle.mv_gate.specs.declared.answers.Answer.TheVariants as answer

-- At the scheduler

-- each call that has begun has its rounds, the last of which has its start
abbrev pub HaveRoundStarts : Schedule → Type 0
HaveRoundStarts s = (c : ℕ) (l : Live) → slice_get s.calls c ≡ Some l → HasRoundStarts (length s.order) l

-- no live call was repaired or moved more often than there are rounds
abbrev pub UseRounds : ℕ → Schedule → Type 0
UseRounds rounds s = (c : ℕ) (l : Live) → IsLive s c l → used l ≤ rounds

-- each live call has, for each shard, the last commit up to its start that changes a row of the shard, or 0
pub record HaveTouched (s : BoardScript) (schedule : Schedule) (starts : List (Option (List ℕ))) : Type 0 where
  pub count : length starts ≡ length schedule.calls
  pub each : (c : ℕ) (l : Live) → IsLive schedule c l → (touched : List ℕ) × (slice_get starts c ≡ Some (Some touched)) × AreLastChanges s schedule.order l.start touched

-- a history of the board's script, and a ledger that has seen its commits. Its events are bounded, and so are the rounds
-- of live calls. Each live call has what it takes to read the shards at its start
pub record IsScheduler (s : BoardScript) (b : Booked) (ledger : Entered) (starts : List (Option (List ℕ))) : Type 0 where
  pub script : b.script ≡ script_in s
  pub sound : IsCompiledScript (script_in s)
  pub seen : ledger.knows.seen ≡ b.schedule.order
  pub commits : ledger.commits ≡ length b.schedule.order
  pub low : b.schedule.low ≤ length b.schedule.order
  pub round_starts : HaveRoundStarts b.schedule
  pub bounded : IsBounded (batch s) b.journal
  pub rounds : UseRounds s.options.rounds b.schedule
  pub touched : HaveTouched s b.schedule starts

-- Outside of the lock

-- what contracts see of a call that has still to run at its start
pub record Waiting : Type 0 where
  pub call : ℕ
  pub start : Started

-- a call of the board's script
pub record IsWaiting (s : BoardScript) (w : Waiting) : Type 0 where
  pub there : w.call < length s.calls
  pub sound : IsCompiledScript (script_in s)

-- the same, and its pass has seen more commits after the start than the horizon keeps
pub record IsLate (s : BoardScript) (w : Waiting) : Type 0 where
  pub waits : IsWaiting s w
  pub past : IsPast s.options.horizon w.start.number (length w.start.knows.seen)

-- what contracts see of a call that a worker holds: its number, its start, the start that its last round was repaired
-- from, and its task
pub record Holding : Type 0 where
  pub call : ℕ
  pub start : Started
  pub from : Option ℕ
  pub task : Task

-- what the task executed: all its records in a whole run, those that aren't kept in a repair from a start
abbrev pub IsExecuted : Batch → List ℕ → ℕ → Option ℕ → ℕ → Task → Type 0
IsExecuted w seen c None start t = t.executed ≡ length t.log.records
IsExecuted w seen c (Some from) start t = (from ≤ start) × (t.ended ≡ true) × (t.executed ≡ repair_run w seen c from start)

-- a call of the board's script, as far as it has run at its start in the history that its pass has seen
pub record IsHeld (s : BoardScript) (h : Holding) : Type 0 where
  pub there : h.call < length s.calls
  pub sound : IsCompiledScript (script_in s)
  pub past : h.start.number ≤ length h.start.knows.seen
  pub runs : RunsOn (script_in s) h.call (table_at (batch s) h.start.knows.seen h.start.number) h.task
  pub executed : IsExecuted (batch s) h.start.knows.seen h.call h.from h.start.number h.task

-- the reply and the writes are those that records tell
abbrev pub Tells : List Record → CallOutput → Type 0
Tells rs output = (output.reply ≡ reply_told rs) × (output.writes ≡ writes_told rs)

-- what contracts see of a call that is to be repaired: its number, its new start, the old one, its task there, and the
-- commits after that
pub record Repairing : Type 0 where
  pub call : ℕ
  pub start : Started
  pub from : ℕ
  pub task : Task
  pub since : List Committed

-- its task has run whole at the old start. The new start is after all commits that its pass has seen
pub record IsRepairing (s : BoardScript) (r : Repairing) : Type 0 where
  pub there : r.call < length s.calls
  pub sound : IsCompiledScript (script_in s)
  pub before : r.from ≤ r.start.number
  pub last : r.start.number ≡ length r.start.knows.seen
  pub runs : RunsOn (script_in s) r.call (table_at (batch s) r.start.knows.seen r.from) r.task
  pub ended : r.task.ended ≡ true
  pub since : changes_in r.since ≡ since (batch s) r.start.knows.seen r.from

-- At the scheduler, in one hold

-- a live call of the script, whose task has run whole at its start. If its last round has no number yet, that is the
-- number of the records that the task executed
pub record IsWhole (b : Booked) (c : ℕ) (t : Task) : Type 0 where
  pub live : IsLiveCall b.schedule c
  pub there : c < length b.script.calls
  pub runs : (l : Live) → IsLive b.schedule c l → RunsOn b.script c (table_at (batch_in b) b.schedule.order l.start) t
  pub ended : t.ended ≡ true
  pub records : AreRecordsOf b c t.log.records
  pub number : IsMissing t.executed b c

-- a task has run whole after all commits
pub record IsLatest (b : Booked) (c : ℕ) (t : Task) : Type 0 where
  pub runs : RunsOn b.script c (table_at (batch_in b) b.schedule.order (length b.schedule.order)) t
  pub ended : t.ended ≡ true
  pub records : t.log.records ≡ records_at (batch_in b) b.schedule.order (length b.schedule.order) c

-- it executed what a repair from the start of the live call executes
abbrev pub HasRepaired : Booked → ℕ → Task → Type 0
HasRepaired b c t = (l : Live) → IsLive b.schedule c l → t.executed ≡ repair_run (batch_in b) b.schedule.order c l.start (length b.schedule.order)

-- more commits than the horizon were made after the start of a live call
abbrev pub IsPastIn : Booked → ℕ → Type 0
IsPastIn b c = (l : Live) → IsLive b.schedule c l → IsPast (batch_in b).options.horizon l.start (length b.schedule.order)

-- a live call of the script, which may move
pub record MayMove (b : Booked) (c : ℕ) : Type 0 where
  pub live : IsLiveCall b.schedule c
  pub there : c < length b.script.calls
  pub past : IsPastIn b c

-- whether a live call may be repaired or moved once more
abbrev pub HasRound : Bool → Booked → ℕ → Type 0
HasRound more b c = (l : Live) → IsLive b.schedule c l → has_round (batch_in b) l ≡ more

-- the start that a round with this mark was repaired from, if the round before it has this one
abbrev pub repaired_by : Mark → ℕ → Option ℕ
repaired_by Repaired n = Some n
repaired_by Exclusive n = Some n
repaired_by Moved n = None

-- the start that the last round was repaired from; the first round and a move have none
abbrev pub repaired_from : List RoundStart → Option ℕ
repaired_from [] = None
repaired_from (t ∷ []) = None
repaired_from (t ∷ u ∷ []) = repaired_by u.mark t.start
repaired_from (t ∷ u ∷ v ∷ ts) = repaired_from (u ∷ v ∷ ts)

-- a live call's last round has its number, or is no repair
abbrev pub IsSettledOrWhole : Booked → ℕ → Type 0
IsSettledOrWhole b c = (IsSettled b c → ⊥) → (l : Live) → IsLive b.schedule c l → repaired_from l.round_starts ≡ None

-- the history has a live call with this start
pub record StartsAt (b : Booked) (c start : ℕ) : Type 0 where
  pub live : Live
  pub is_live : IsLive b.schedule c live
  pub start_is : live.start ≡ start

-- the history has the holder's call, with the same start and the same repair
pub record IsKnown (b : Booked) (h : Holding) : Type 0 where
  pub live : Live
  pub is_live : IsLive b.schedule h.call live
  pub start : live.start ≡ h.start.number
  pub from : repaired_from live.round_starts ≡ h.from

-- Results of holds

-- a start after all commits
abbrev pub StartsLast : Started → Booked → Type 0
StartsLast start b = (start.number ≡ length b.schedule.order) × (start.knows.seen ≡ b.schedule.order)

-- the next call began, after all commits; or every call has begun
abbrev pub HandsOut : Result (Option Waiting) NoMemory → Booked → Booked → Type 0
HandsOut (Ok (Some w)) old new = Made (B w.call) old new × StartsLast w.start old
HandsOut (Ok None) old new = (length old.schedule.calls ≡ length old.script.calls) × IsSame old new
HandsOut (Err e) old new = IsSame old new

-- a call that may move moved
pub record Moves (c : ℕ) (old new : Booked) : Type 0 where
  pub past : IsPastIn old c
  pub left : HasRound true old c
  pub made : Made (M c) old new

-- a call that may move, and had used its rounds, moved and committed in one step
pub record MovesAndCommits (c : ℕ) (old new : Booked) : Type 0 where
  pub past : IsPastIn old c
  pub none_left : HasRound false old c
  pub mid : Booked
  pub moved : Made (M c) old mid
  pub committed : Made (C c) mid new

-- the call committed, or was repaired and committed in one step, or moved and committed in one step; this is the number
-- of its commit. The law of journals allows the first only if the call isn't stale and isn't hit, and the second only if
-- it is hit and has used its rounds
abbrev pub Commits : ℕ → ℕ → Booked → Booked → Type 0
Commits c n old new = (Made (C c) old new ⊎ (Made (X c) old new ⊎ MovesAndCommits c old new)) × (n ≡ length old.schedule.order + 1)

-- a call that may move, and had used its rounds, moved and was answered in one step
pub record MovesAndAnswers (c : ℕ) (old new : Booked) : Type 0 where
  pub past : IsPastIn old c
  pub none_left : HasRound false old c
  pub mid : Booked
  pub moved : Made (M c) old mid
  pub answered : Made (R c) mid new

-- the call was answered at its start, or moved and was answered in one step, after all commits; this is the number of
-- commits before it. The law of journals allows the first only if the call isn't stale
abbrev pub Answers : ℕ → ℕ → Booked → Booked → Type 0
Answers c n old new = (Made (R c) old new × ((l : Live) → IsLive old.schedule c l → n ≡ l.start)) ⊎ (MovesAndAnswers c old new × (n ≡ length old.schedule.order))

-- the call committed, was answered, or is to be repaired, or moved, or nothing happened
abbrev pub Tries : ℕ → Answer → Booked → Booked → Type 0
Tries c (answer.Committed n) old new = Commits c n old new
Tries c (answer.Answered n) old new = Answers c n old new
Tries c answer.Repaired old new = Made (A c) old new
Tries c answer.Moved old new = Moves c old new
Tries c answer.Lost old new = IsSame old new

-- a call that is to be repaired is given back with its old start and a new one, after all commits
abbrev pub GivesRepair : ℕ → ℕ → Answer → Option Repairing → Booked → Type 0
GivesRepair c from answer.Repaired (Some r) new = (r.call ≡ c) × (r.from ≡ from) × StartsLast r.start new
GivesRepair c from answer.Repaired None new = ⊥
GivesRepair c from (answer.Committed n) r new = r ≡ None
GivesRepair c from (answer.Answered n) r new = r ≡ None
GivesRepair c from answer.Moved r new = r ≡ None
GivesRepair c from answer.Lost r new = r ≡ None

-- a call that moved is given back with a start after all commits
abbrev pub GivesMoved : ℕ → Answer → Option Waiting → Booked → Type 0
GivesMoved c answer.Moved (Some w) new = (w.call ≡ c) × StartsLast w.start new
GivesMoved c answer.Moved None new = ⊥
GivesMoved c (answer.Committed n) w new = w ≡ None
GivesMoved c (answer.Answered n) w new = w ≡ None
GivesMoved c answer.Repaired w new = w ≡ None
GivesMoved c answer.Lost w new = w ≡ None

-- the call moved, in a round with its number, and was answered in the same step after all commits; or nothing happened
abbrev pub HasMovedAndAnswered : ℕ → Result ℕ NoMemory → Booked → Booked → Type 0
HasMovedAndAnswered c (Ok n) old new = ((mid : Booked) × Made (M c) old mid × Made (R c) mid new × IsSettled mid c) × (n ≡ length old.schedule.order)
HasMovedAndAnswered c (Err x) old new = IsSame old new

-- old versions may be collected up to this low; without a horizon nothing happened
abbrev pub Collects : Result (Option ℕ) NoMemory → Booked → Booked → Type 0
Collects (Ok (Some low)) old new = Made G old new × (low ≡ new.schedule.low)
Collects (Ok None) old new = ((batch_in old).options.horizon ≡ None) × (new ≡ old)
Collects (Err e) old new = IsSame old new

-- The mark of the lock

-- whether a hold has found no memory, after one more with this result
abbrev pub marked : {T : Type 0} → Result T NoMemory → Bool → Bool
marked (Ok x) before = before
marked (Err e) before = true

-- The end

-- the call has committed or was answered
abbrev pub IsDone : Schedule → ℕ → Type 0
IsDone s c = (l : Live) × (slice_get s.calls c ≡ Some l) × (l.done ≡ true)

-- a later point of a run: each call that was done still is, no fewer calls have begun, and the old events begin the new
-- ones
pub record GoesOn (old new : Booked) : Type 0 where
  pub done : (c : ℕ) → IsDone old.schedule c → IsDone new.schedule c
  pub count : length old.schedule.calls ≤ length new.schedule.calls
  pub script : new.script ≡ old.script
  pub events : IsPrefix old.journal new.journal

-- a live call commits or is answered, in one event
abbrev pub Ends : ℕ → Booked → Booked → Type 0
Ends c old new = Made (C c) old new ⊎ (Made (X c) old new ⊎ Made (R c) old new)

-- a call that a worker has left ends: it commits or is answered, maybe after a repair or a move in the same step
abbrev pub Brings : ℕ → Booked → Booked → Type 0
Brings c old new = Ends c old new ⊎ ((mid : Booked) × (Made (A c) old mid ⊎ Made (M c) old mid) × Ends c mid new)

-- the outcome of a lawful and bounded journal of the script's calls, in which each has committed or was answered
pub record IsOutcome (w : Batch) (o : Outcome) : Type 0 where
  pub lawful : Lawful w o.journal
  pub bounded : IsBounded w o.journal
  pub outcome : o ≡ outcome_of w o.journal
