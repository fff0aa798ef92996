-- Serializable outcomes: the calls could have been executed alone, one after another, with the same replies and the same
-- last tables, in an order that agrees with the times of their begins and commits. This project's own.
use Rattle.std.specs.Prelude.{◌≡◌, ◌≤◌, ◌<◌, ℕ, ◌+◌, ◌==◌, List, [], ◌∷◌, ◌++◌, Option, Some, None, All, Contains, map, length, take, slice_get}
use Rattle.std.specs.List.{filter, flat_map}
use Rattle.std.specs.Option.{is_some}
use Rattle.mv_values.specs.Counts.{first_numbers}
use Rattle.mv_journal.specs.declared.event.Event.{Event}
use Rattle.mv_journal.specs.declared.event.Event.TheVariants.{B, S, A, M, C, X, R, G}
use Rattle.mv_journal.specs.declared.outcome.Round.{Round}
use Rattle.mv_journal.specs.declared.outcome.HistoryLine.{HistoryLine}
use Rattle.mv_journal.specs.declared.outcome.Outcome.{Outcome}
use Rattle.mv_lawful.specs.Batch.{Batch, table_at, ReadersKeepTables}
use Rattle.mv_lawful.specs.Lawful.{Lawful}
use Rattle.mv_lawful.specs.Rounds.{last_start}
use Rattle.mv_lawful.specs.Outcomes.{outcome_of}

-- the call that begins by an event
abbrev pub begun_by : Event → List ℕ
begun_by (B c) = c ∷ []
begun_by (S c) = []
begun_by (A c) = []
begun_by (M c) = []
begun_by (C c) = []
begun_by (X c) = []
begun_by (R c) = []
begun_by G = []

-- the call that commits by an event
abbrev pub committed_by : Event → List ℕ
committed_by (B c) = []
committed_by (S c) = []
committed_by (A c) = []
committed_by (M c) = []
committed_by (C c) = c ∷ []
committed_by (X c) = c ∷ []
committed_by (R c) = []
committed_by G = []

-- the call that ends by an event: it commits, or is answered
abbrev pub ended_by : Event → List ℕ
ended_by (B c) = []
ended_by (S c) = []
ended_by (A c) = []
ended_by (M c) = []
ended_by (C c) = c ∷ []
ended_by (X c) = c ∷ []
ended_by (R c) = c ∷ []
ended_by G = []

-- the calls that begin, in the order of the events
abbrev pub begins_in : List Event → List ℕ
begins_in = flat_map begun_by

-- the calls that commit, in the order of the events
abbrev pub commits_in : List Event → List ℕ
commits_in = flat_map committed_by

-- the calls that end, in the order of the events
abbrev pub ends_in : List Event → List ℕ
ends_in = flat_map ended_by

-- the calls of a history, in the order of its lines
abbrev pub order_of : List HistoryLine → List ℕ
order_of history = map (λ line. line.call) history

-- the lines of commits
abbrev pub commits_of : List HistoryLine → List HistoryLine
commits_of history = filter (λ (line : HistoryLine). is_some line.commit) history

-- the number of commits before the line at a place
abbrev pub commits_to : ℕ → List HistoryLine → ℕ
commits_to k history = length (commits_of (take k history))

-- a line with n commits before it is in its place: a commit has the next number, and an answered call has its last start
-- there
abbrev pub IsPlaced : ℕ → Option ℕ → List Round → Type 0
IsPlaced n (Some number) rounds = number ≡ n + 1
IsPlaced n None rounds = last_start rounds ≡ n

-- the start of a call's first round
abbrev pub start_of : List Round → Option ℕ
start_of [] = None
start_of (round ∷ rounds) = Some round.start

-- the calls are serializable in the order of the history
pub record IsSerializable (w : Batch) (o : Outcome) : Type 0 where
  -- the order has each call exactly once, and nothing else
  pub calls : All (λ c. c < w.count) (order_of o.history)
  pub once : (c : ℕ) → c < w.count → length (filter (λ d. d == c) (order_of o.history)) ≡ 1
  -- each call has the reply that it gives alone on the tables that the calls before it leave, and the tables are the last
  -- ones
  pub count : length o.replies ≡ w.count
  pub replies : (k c : ℕ) → slice_get (order_of o.history) k ≡ Some c → slice_get o.replies c ≡ Some (w.run c (table_at w (order_of o.history) k)).reply
  pub tables : o.tables ≡ table_at w (order_of o.history) (length (order_of o.history))
  -- the calls begin in the order of their numbers, and commit in the order of the history. Each commits or is answered
  -- after its own begin
  pub begun : begins_in o.journal ≡ first_numbers w.count
  pub committed : commits_in o.journal ≡ order_of (commits_of o.history)
  pub between : (before later : List Event) (c : ℕ) → o.journal ≡ before ++ B c ∷ later → Contains (ends_in later) c
  -- a commit stands by its number, and an answered call at its last start, which is no greater than the number of commits
  -- before its answer
  pub placed : (k : ℕ) (line : HistoryLine) → slice_get o.history k ≡ Some line → IsPlaced (commits_to k o.history) line.commit line.rounds
  pub answered : (before later : List Event) (k : ℕ) (line : HistoryLine) → o.journal ≡ before ++ R line.call ∷ later → slice_get o.history k ≡ Some line → commits_to k o.history ≤ length (commits_in before)
  -- the first start of a call is the number of commits before its begin, and no start is greater than the number of
  -- commits before its line. So a call that had committed before another began stands before it
  pub first : (before later : List Event) (k : ℕ) (line : HistoryLine) → o.journal ≡ before ++ B line.call ∷ later → slice_get o.history k ≡ Some line → start_of line.rounds ≡ Some (length (commits_in before))
  pub starts : (k : ℕ) (line : HistoryLine) → slice_get o.history k ≡ Some line → All (λ (round : Round). round.start ≤ commits_to k o.history) line.rounds

-- the outcome of a lawful journal is serializable, if read only calls change nothing
abbrev pub LawfulIsSerializable : Type 0
LawfulIsSerializable = (w : Batch) (es : List Event) → ReadersKeepTables w → Lawful w es → IsSerializable w (outcome_of w es)
