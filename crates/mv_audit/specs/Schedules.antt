-- What the auditor keeps of the events that it has read: a state of the law of journals, with the records of each live
-- call, the rounds of each call with their numbers, and the changes of each commit. This project's own.
use Rattle.std.specs.Prelude.{◌≡◌, ◌≤◌, ℕ, Bool, true, false, List, [], ◌∷◌, ◌++◌, Option, Some, None, map, length, drop, slice_get, slice_set, option_to_list}
use Rattle.std.specs.List.{flat_map}
use Rattle.std.specs.Option.{is_some}
use Rattle.mv_values.specs.declared.calls.End.{End}
use Rattle.mv_values.specs.declared.calls.Reply.{Reply}
use Rattle.mv_values.specs.declared.schema.TableInfo.{TableInfo}
use Rattle.mv_values.specs.Patching.{applied}
use Rattle.mv_values.specs.Tables.{Tables}
use Rattle.mv_catalog.specs.declared.resolved.Program.{Program}
use Rattle.mv_record.specs.declared.record.Record.{Record}
use Rattle.mv_record.specs.Databases.{IsDatabaseOf}
use Rattle.mv_record.specs.Runs.{writes_in}
use Rattle.mv_history.specs.declared.change.Change.{Change}
use Rattle.mv_history.specs.Changes.{changes_between}
use Rattle.mv_history.specs.Kept.{executions}
use Rattle.mv_journal.specs.declared.event.Event.{Event}
use Rattle.mv_journal.specs.declared.event.Event.TheVariants.{A, M, C, X}
use Rattle.mv_journal.specs.declared.outcome.HistoryLine.{HistoryLine}
use Rattle.mv_journal.specs.declared.outcome.Mark.{Mark}
use Rattle.mv_journal.specs.declared.outcome.Mark.TheVariants.{Plain, Exclusive, Moved}
use Rattle.mv_journal.specs.declared.outcome.Round.{Round}
use Rattle.mv_lawful.specs.Batch.{Batch, table_at, records_at, changes_after}
use Rattle.mv_lawful.specs.Lawful.{Live, Schedule, wrong_with}
use Rattle.mv_lawful.specs.declared.fault.EventFault.{EventFault}
use Rattle.mv_lawful.specs.declared.fault.Wrong.TheVariants as wrong
use Rattle.mv_lawful.specs.Rounds.{round_starts_in, WithinRounds, last_turn_or, closed, counted, rounds_of}
use Rattle.mv_lawful.specs.declared.places.Place.{Place}
use Rattle.mv_lawful.specs.Outcomes.{IsReply, outcome_of}
use Rattle.mv_lawful.proofs.Serial.{OrderlyAt}
use Rattle.mv_report.specs.History.{batch_of}
use Rattle.mv_audit.specs.declared.schedule.Live.{Live as Kept}
use Rattle.mv_audit.specs.declared.schedule.Schedule.{Schedule as State}
use Rattle.mv_audit.specs.declared.judge.Judged.{Judged}
use Rattle.mv_audit.specs.declared.judge.Judged.TheVariants.{Refused, Open, Lawful}

-- the batch of a program under so many rounds, without a horizon
abbrev pub audited : Program → ℕ → Batch
audited p rounds = batch_of p (record { rounds = rounds; horizon = None })

-- Rounds

-- the number of records that a round with this mark executes, given those of the run before it, its own, and the commits
-- between them
abbrev pub count_by : Mark → List Record → List Record → List (List Change) → ℕ
count_by Plain old new commits = executions old new (flat_map (λ changes. changes) commits)
count_by Exclusive old new commits = executions old new (flat_map (λ changes. changes) commits)
count_by Moved old new commits = length new

-- the rounds of a call with one more
abbrev pub more_rounds : Kept → ℕ → Mark → List Record → List (List Change) → List Round
more_rounds l n mark new commits = closed mark l.rounds ++ counted n mark (count_by mark l.records new (drop l.start commits)) ∷ []

-- Calls

-- what the law of journals sees of a call
abbrev pub live_of : Kept → Live
live_of l = record { start = l.start; round_starts = round_starts_in l.rounds; steps = 0; done = is_some l.reply }

-- a live call has its records and the reply of its full run, and one that is done its reply
abbrev pub TellsRun : Batch → List ℕ → List ℕ → ℕ → Kept → Option Reply → Type 0
TellsRun w order answered c l None = (l.records ≡ records_at w order l.start c) × (l.given ≡ (w.run c (table_at w order l.start)).reply)
TellsRun w order answered c l (Some reply) = IsReply w order answered l.start c reply

-- what is kept of a call is so
pub record TellsCall (w : Batch) (order answered : List ℕ) (c : ℕ) (l : Kept) : Type 0 where
  pub first : Round
  pub rest : List Round
  pub are : l.rounds ≡ first ∷ rest
  pub start : l.start ≡ last_turn_or first.start (round_starts_in rest)
  pub past : l.start ≤ length order
  pub within : WithinRounds (length order) (round_starts_in l.rounds)
  pub rounds : l.rounds ≡ rounds_of w order c (round_starts_in l.rounds)
  pub run : TellsRun w order answered c l l.reply

-- the call with this number is live
pub record IsLive (s : State) (c : ℕ) (l : Kept) : Type 0 where
  pub at : slice_get s.calls c ≡ Some l
  pub live : l.reply ≡ None

-- The state

abbrev pub schedule_of : State → Schedule
schedule_of s = record { order = s.order; calls = map live_of s.calls; low = 0; answered = s.answered }

-- what is kept is so, and the tables are those after all commits. The changes of the first `low` commits are gone, and
-- no live call needs them
pub record IsSchedule (infos : List TableInfo) (w : Batch) (s : State) : Type 0 where
  pub database : IsDatabaseOf infos s.tables
  pub tables : s.tables ≡ table_at w s.order (length s.order)
  pub many : length s.commits ≡ length s.order
  pub wide : s.low ≤ length s.order
  pub changes : drop s.low s.commits ≡ drop s.low (changes_after w w.opening s.order)
  pub needed : (c : ℕ) (l : Kept) → slice_get s.calls c ≡ Some l → l.reply ≡ None → s.low ≤ l.start
  pub orderly : OrderlyAt w (schedule_of s)
  pub tells : (c : ℕ) (l : Kept) → slice_get s.calls c ≡ Some l → TellsCall w s.order s.answered c l

-- changes of old commits are dropped, and the rest stays
pub record IsTrimmed (s next : State) : Type 0 where
  pub order : next.order ≡ s.order
  pub answered : next.answered ≡ s.answered
  pub calls : next.calls ≡ s.calls
  pub tables : next.tables ≡ s.tables
  pub many : length next.commits ≡ length s.commits
  pub wide : s.low ≤ length s.commits → next.low ≤ length s.commits
  pub later : s.low ≤ next.low
  pub changes : drop next.low next.commits ≡ drop next.low s.commits
  pub needed : ((c : ℕ) (l : Kept) → slice_get s.calls c ≡ Some l → l.reply ≡ None → s.low ≤ l.start) → (c : ℕ) (l : Kept) → slice_get s.calls c ≡ Some l → l.reply ≡ None → next.low ≤ l.start

-- Commits

-- the changes of the commits after a start
pub record AreSince (w : Batch) (order : List ℕ) (start : ℕ) (commits : List (List Change)) : Type 0 where
  pub many : length commits ≡ length order
  pub since : drop start commits ≡ drop start (changes_after w w.opening order)

-- the records whose writes stay: none if the call is rolled back
abbrev pub staying : List Record → Option End → List Record
staying rs None = rs
staying rs (Some end) = []

-- the tables that a call with these records and this end leaves
abbrev pub left_by : List Record → Option End → Tables → Tables
left_by rs end db = applied (writes_in (staying rs end)) db

-- Events

-- a reply without lines
abbrev pub no_reply : Reply
no_reply = record { lines = []; end = None }

-- a call that begins after n commits. Its full run leaves these records and this reply
abbrev pub fresh : ℕ → List Record → Reply → Kept
fresh n new given = record { start = n; records = new; given = given; rounds = counted n Plain (length new) ∷ []; reply = None }

-- a call that is repaired or moved after all commits. Its full run leaves these records and this reply
abbrev pub restarted : Kept → Mark → List Record → Reply → List (List Change) → Kept
restarted l mark new given commits = record { start = length commits; records = new; given = given; rounds = more_rounds l (length commits) mark new commits; reply = None }

-- a call that commits with this reply; with `own`, in a round of its own that leaves these records
abbrev pub finished : Bool → Kept → List Record → List (List Change) → Reply → Kept
finished false l new commits reply = record { start = l.start; records = []; given = no_reply; rounds = l.rounds; reply = Some reply }
finished true l new commits reply = record { start = length commits; records = []; given = no_reply; rounds = more_rounds l (length commits) Exclusive new commits; reply = Some reply }

-- a call that is answered with the reply of its full run
abbrev pub answered : Kept → Kept
answered l = record { start = l.start; records = []; given = no_reply; rounds = l.rounds; reply = Some l.given }

-- a repair or a move
abbrev pub round_event : Bool → ℕ → Event
round_event false c = A c
round_event true c = M c

abbrev pub mark_of : Bool → Mark
mark_of false = Plain
mark_of true = Moved

-- a commit, and one in a round of its own
abbrev pub commit_event : Bool → ℕ → Event
commit_event false c = C c
commit_event true c = X c

-- the state after a call begins, whose full run leaves these records and this reply
abbrev pub begun_state : State → List Record → Reply → State
begun_state s new given = record s { calls = s.calls ++ fresh (length s.order) new given ∷ [] }

-- the state after a call is repaired or moved, whose full run leaves these records and this reply
abbrev pub again_state : State → ℕ → Kept → Mark → List Record → Reply → State
again_state s c l m new given = record s { calls = slice_set s.calls c (restarted l m new given s.commits) }

-- the state after a call is answered
abbrev pub answered_state : State → ℕ → Kept → State
answered_state s c l = record s { answered = s.answered ++ c ∷ []; calls = slice_set s.calls c (answered l) }

-- the state after a call commits with these records and this reply, which leads to a database
abbrev pub committed_state : State → ℕ → Kept → Bool → List Record → Reply → Tables → State
committed_state s c l own new reply db = record s {
  order = s.order ++ c ∷ [];
  commits = s.commits ++ changes_between s.tables db ∷ [];
  calls = slice_set s.calls c (finished own l new s.commits reply);
  tables = db;
}

abbrev pub IsLiveCall : State → ℕ → Type 0
IsLiveCall s c = (l : Kept) × IsLive s c l

-- The end

-- the rounds kept of a call
abbrev pub rounds_by : Option Kept → List Round
rounds_by None = []
rounds_by (Some l) = l.rounds

abbrev pub line_of : List Kept → Place → HistoryLine
line_of ls p = record { commit = p.commit; call = p.call; rounds = rounds_by (slice_get ls p.call) }

-- the replies of those that are done
abbrev pub replies_in : List Kept → List Reply
replies_in ls = flat_map (λ l. option_to_list l.reply) ls

-- what a journal comes to
abbrev pub IsJudgement : Batch → List Event → Judged → Type 0
IsJudgement w es (Refused n) = (f : EventFault) × (wrong_with w es ≡ Some (wrong.Refused n f))
IsJudgement w es Open = (c : ℕ) × (wrong_with w es ≡ Some (wrong.Open c))
IsJudgement w es (Lawful o) = (wrong_with w es ≡ None) × (o ≡ outcome_of w es)

-- a refused event is one of so many
abbrev pub IsWithin : ℕ → Judged → Type 0
IsWithin many (Refused n) = n ≤ many
IsWithin many Open = Unit {0}
IsWithin many (Lawful o) = Unit {0}
