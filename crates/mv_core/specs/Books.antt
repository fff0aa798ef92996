-- Defines the contents of a book, and how events change it. The law of journals says which events are allowed. This
-- project's own.
use Rattle.std.specs.Prelude.{◌≡◌, ◌⊎◌, ◌<◌, ◌≤◌, ◌+◌, ℕ, max, true, false, List, [], ◌∷◌, ◌++◌, Option, Some, None, Result, Ok, Err, length, slice_get, IsSome}
use Rattle.std.specs.Option.{ForSome, option_map}
use Rattle.mv_values.specs.declared.memory.NoMemory.{NoMemory}
use Rattle.mv_values.specs.Tables.{Tables}
use Rattle.mv_record.specs.declared.record.Record.{Record}
use Rattle.mv_record.specs.Runs.{Run}
use Rattle.mv_history.specs.declared.change.Change.{Change}
use Rattle.mv_history.specs.Changes.{changes_between}
use Rattle.mv_changes.specs.Commits.{Window}
use Rattle.mv_view.specs.declared.view.Refused.{Refused}
use Rattle.mv_view.specs.declared.view.Refused.TheVariants as refused
use Rattle.mv_journal.specs.declared.event.Event.{Event}
use Rattle.mv_journal.specs.declared.event.Event.TheVariants.{B, A, M, C, X, R}
use Rattle.mv_journal.specs.declared.outcome.Mark.{Mark}
use Rattle.mv_journal.specs.declared.outcome.Mark.TheVariants.{Plain, Exclusive, Moved}
use Rattle.mv_journal.specs.declared.outcome.Round.{Round}
use Rattle.mv_lawful.specs.declared.fault.EventFault.TheVariants as fault
use Rattle.mv_lawful.specs.Batch.{Batch, table_at, records_at, since, hit_of}
use Rattle.mv_lawful.specs.Lawful.{Live, Schedule, beginning, refusal, used, oldest, after, schedule_of, is_stale, AllAllowed}
use Rattle.mv_lawful.specs.Rounds.{rounds_of, round_starts_in, last_number}
use Rattle.mv_exec.specs.declared.task.Task.{Task}
use Rattle.mv_script.specs.declared.script.CompiledScript.{CompiledScript}
use Rattle.mv_core.specs.declared.progress.Progress.{Progress}
use Rattle.mv_core.specs.declared.book.Begun.{Begun}
use Rattle.mv_core.specs.declared.book.Check.{Check}
use Rattle.mv_core.specs.declared.book.Check.TheVariants.{Free, Hit, Stale}
use Rattle.mv_core.specs.Rooms.{Filled}
use Rattle.mv_script.specs.Scripts.{IsCompiledScript, batch_of}
use Rattle.mv_core.specs.Lives.{live_numbers}
use Rattle.mv_core.specs.Calls.{IsLive, IsLiveCall, AreRounds, TellsCall, due_number}

-- A book

-- what contracts see of a book: its script, the outcome of its events, the rounds of each call that has begun, its
-- events, and the room for more events
pub record Booked : Type 0 where
  pub script : CompiledScript
  pub schedule : Schedule
  pub rounds : List (Filled Round)
  pub journal : List Event
  pub room : ℕ

-- its batch, in the words of the law of journals
abbrev pub batch_in : Booked → Batch
batch_in b = batch_of b.script

abbrev pub kept_rounds : Filled Round → List Round
kept_rounds f = f.items

-- the rounds of a call, as far as it has begun
abbrev pub rounds_at : Booked → ℕ → Option (List Round)
rounds_at b c = option_map kept_rounds (slice_get b.rounds c)

-- the number of a call's last round is known
abbrev pub IsSettled : Booked → ℕ → Type 0
IsSettled b c = ForSome (rounds_at b c) (λ rs. IsSome (last_number rs))

-- the script is of one piece, no event of the journal is refused, the schedule is what they come to, and each call has its
-- rounds and its reply
pub record IsBookKept (s : CompiledScript) (schedule : Schedule) (calls : List Progress) (journal : List Event) : Type 0 where
  pub script : IsCompiledScript s
  pub allowed : AllAllowed (batch_of s) beginning journal
  pub reaches : schedule ≡ schedule_of (batch_of s) journal
  pub tells : (c : ℕ) (p : Progress) → slice_get calls c ≡ Some p → TellsCall (batch_of s) schedule.order schedule.answered c p

-- the changes of the last commits, for the calls of the order executed one after another: at least those after low and
-- after the oldest start of a live call
pub record IsRecent (w : Batch) (schedule : Schedule) (window : Window) : Type 0 where
  pub within : schedule.low ≤ length schedule.order
  pub from : schedule.low ≤ window.low
  pub needed : window.low ≤ max schedule.low (oldest (length schedule.order) schedule.calls)
  pub commits : window.commits ≡ since w schedule.order window.low

-- all that, and the numbers of the live calls
pub record IsBook (s : CompiledScript) (schedule : Schedule) (calls : List Progress) (journal : List Event) (numbers : List ℕ) (window : Window) : Type 0 where
  pub kept : IsBookKept s schedule calls journal
  pub live : numbers ≡ live_numbers schedule.calls
  pub recent : IsRecent (batch_of s) schedule window

-- the database after all commits
abbrev pub last_tables : Booked → Tables
last_tables b = table_at (batch_in b) b.schedule.order (length b.schedule.order)

-- a full run of a call on it
abbrev pub last_run : Booked → ℕ → Run
last_run b c = (batch_in b).run c (last_tables b)

-- the changes of its commit
abbrev pub last_changes : Booked → ℕ → List Change
last_changes b c = changes_between (last_tables b) (last_run b c).tables

-- a full run of a live call at its start
abbrev pub start_run : Booked → ℕ → Live → Run
start_run b c l = (batch_in b).run c (table_at (batch_in b) b.schedule.order l.start)

-- the call is read only, or isn't
abbrev pub IsReader : Booked → ℕ → Type 0
IsReader b c = (batch_in b).read_only c ≡ true

abbrev pub IsNoReader : Booked → ℕ → Type 0
IsNoReader b c = (batch_in b).read_only c ≡ false

-- this call is live, and no other is
abbrev pub IsAlone : Booked → ℕ → Type 0
IsAlone b c = live_numbers b.schedule.calls ≡ c ∷ []

-- the changes of the commit with this number were added; without them, all were dropped
abbrev pub Remembers : ℕ → Option (List Change) → Window → Window → Type 0
Remembers number None old new = (new.low ≡ number) × (new.commits ≡ [])
Remembers number (Some changes) old new = (new.low ≡ old.low) × (new.commits ≡ old.commits ++ changes ∷ [])

-- Events

-- the event begins a round of a live call, which has no number yet
abbrev pub BeginsRound : Event → ℕ → Type 0
BeginsRound e c = (e ≡ A c) ⊎ (e ≡ M c)

-- the event was allowed, and was made. No number of a live call's last round is lost, but that of a round that the event
-- ends
pub record Made (e : Event) (old new : Booked) : Type 0 where
  pub allowed : refusal (batch_in old) old.schedule e ≡ None
  pub schedule : new.schedule ≡ after (batch_in old) old.schedule e
  pub settled : (c : ℕ) → IsLiveCall old.schedule c → (BeginsRound e c → ⊥) → IsSettled old c → IsSettled new c
  pub journal : new.journal ≡ old.journal ++ e ∷ []
  pub script : new.script ≡ old.script

-- no event was made, and nothing else changed. But a last round may have got its number, and none that was known is lost
pub record IsSame (old new : Booked) : Type 0 where
  pub script : new.script ≡ old.script
  pub schedule : new.schedule ≡ old.schedule
  pub settled : (c : ℕ) → IsSettled old c → IsSettled new c
  pub journal : new.journal ≡ old.journal

-- the next call began, after all commits; or every call has begun
abbrev pub HasBegun : Result (Option Begun) NoMemory → Booked → Booked → Type 0
HasBegun (Ok (Some b)) old new = Made (B b.call) old new × (b.start ≡ length old.schedule.order)
HasBegun (Ok None) old new = (length old.schedule.calls ≡ length old.script.calls) × IsSame old new
HasBegun (Err e) old new = IsSame old new

-- a repair or a move
abbrev pub round_event : Mark → ℕ → Event
round_event Plain c = A c
round_event Moved c = M c
round_event Exclusive c = X c

-- the number that Runs gives a live call's last round, if the round has none yet
abbrev pub IsMissing : ℕ → Booked → ℕ → Type 0
IsMissing n b c = (IsSettled b c → ⊥) → due_number (batch_in b) b.schedule c ≡ Some n

-- a live call's last round has its number, or is its first one
abbrev pub HasNumber : Booked → ℕ → Type 0
HasNumber b c = (IsSettled b c → ⊥) → (l : Live) → IsLive b.schedule c l → used l ≡ 0

abbrev pub HaveNumbers : Booked → Type 0
HaveNumbers b = (c : ℕ) → HasNumber b c

-- the number of a commit's own round: that of the records executed by the repair in the same step
abbrev pub own_number : Option Task → Option ℕ
own_number None = None
own_number (Some task) = Some task.executed

-- a commit, with a round of its own or without
abbrev pub commit_event : Option ℕ → ℕ → Event
commit_event None c = C c
commit_event (Some k) c = X c

-- the number of a commit's own round is that of Runs
abbrev pub IsOwnBy : Option ℕ → Batch → Schedule → ℕ → Type 0
IsOwnBy None w s c = Unit {0}
IsOwnBy (Some k) w s c = due_number w (after w s (X c)) c ≡ Some k

abbrev pub IsOwnNumber : Option ℕ → Booked → ℕ → Type 0
IsOwnNumber own b c = IsOwnBy own (batch_in b) b.schedule c

-- Room

-- there is room for this many events, and for as many rounds of a call
abbrev pub HasRoom : Booked → ℕ → ℕ → Type 0
HasRoom b c n = (n ≤ b.room) × ForSome (slice_get b.rounds c) (λ r. n ≤ r.room)

-- one event's room was used
abbrev pub UsesOne : Booked → Booked → Type 0
UsesOne old new = (c n : ℕ) → HasRoom old c (n + 1) → HasRoom new c n

-- no room was used
abbrev pub KeepsRoom : Booked → Booked → Type 0
KeepsRoom old new = (c n : ℕ) → HasRoom old c n → HasRoom new c n

-- What is told

-- the rounds of a live call with their numbers; the last one may not have its number yet
pub record HasRounds (b : Booked) (c : ℕ) (rs : List Round) : Type 0 where
  pub kept : rounds_at b c ≡ Some rs
  pub live : Live
  pub is_live : IsLive b.schedule c live
  pub round_starts : round_starts_in rs ≡ live.round_starts
  pub rounds : AreRounds rs (rounds_of (batch_in b) b.schedule.order c live.round_starts)

-- Validation

-- the start of a live call isn't below low
abbrev pub IsNotStale : Booked → ℕ → Type 0
IsNotStale b c = (l : Live) → IsLive b.schedule c l → is_stale b.schedule l ≡ false

-- the records are those of a full run of a live call at its start
abbrev pub AreRecordsOf : Booked → ℕ → List Record → Type 0
AreRecordsOf b c rs = (l : Live) → IsLive b.schedule c l → rs ≡ records_at (batch_in b) b.schedule.order l.start c

-- the records are those of a full run of a call on the tables after all commits
abbrev pub AreLastOf : Booked → ℕ → List Record → Type 0
AreLastOf b c rs = rs ≡ records_at (batch_in b) b.schedule.order (length b.schedule.order) c

-- the law of journals allows the commit of a live call, or refuses it for this reason
abbrev pub IsAnswer : Check → Batch → Schedule → ℕ → Live → Type 0
IsAnswer Free w s c l = refusal w s (C c) ≡ None
IsAnswer (Hit number commit) w s c l = (refusal w s (C c) ≡ Some fault.Conflict) × (hit_of w s.order l.start c ≡ Some (record { number = number; commit = commit }))
IsAnswer (Stale start low) w s c l = (refusal w s (C c) ≡ Some fault.Stale) × (start ≡ l.start) × (low ≡ s.low)

-- Answers

-- the call's start is below low
pub record IsStaleAt (b : Booked) (c start low : ℕ) : Type 0 where
  pub live : Live
  pub is_live : IsLive b.schedule c live
  pub start_is : start ≡ live.start
  pub low_is : low ≡ b.schedule.low
  pub stale : start < low

-- nothing happened, and the call is stale if its view says so
abbrev pub HasRefused : ℕ → Refused → Booked → Booked → Type 0
HasRefused c refused.NoMemory old new = IsSame old new
HasRefused c (refused.Stale start low) old new = IsStaleAt old c start low × IsSame old new

-- the call was answered at its start, or nothing happened
abbrev pub HasAnswered : ℕ → Result ℕ Refused → Booked → Booked → Type 0
HasAnswered c (Ok n) old new = Made (R c) old new × ((l : Live) → IsLive old.schedule c l → n ≡ l.start)
HasAnswered c (Err why) old new = HasRefused c why old new
