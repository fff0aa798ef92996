-- The outcome of a journal: replies, calls in their order with their rounds, events and last tables. This project's own.
use Rattle.std.specs.Prelude.{◌≡◌, ◌≤◌, ℕ, ◌==◌, Bool, true, false, if◌then◌else◌, List, [], ◌∷◌, Option, Some, None, map, length, slice_get}
use Rattle.std.specs.List.{filter, list_any, position, flat_map}
use Rattle.mv_values.specs.declared.calls.Reply.{Reply}
use Rattle.mv_values.specs.Counts.{first_numbers}
use Rattle.mv_journal.specs.declared.event.Event.{Event}
use Rattle.mv_journal.specs.declared.event.Event.TheVariants.{B, S, A, M, C, X, R, G}
use Rattle.mv_journal.specs.declared.outcome.HistoryLine.{HistoryLine}
use Rattle.mv_journal.specs.declared.outcome.Outcome.{Outcome}
use Rattle.mv_lawful.specs.Batch.{Batch, table_at}
use Rattle.mv_lawful.specs.Lawful.{RoundStart, Live, Schedule, schedule_of}
use Rattle.mv_lawful.specs.Places.{Place, start_in, places}
use Rattle.mv_lawful.specs.Rounds.{rounds_of}

-- the reply of a call that runs alone after so many commits; a call that has no place has an empty one
abbrev pub reply_after : Batch → List ℕ → ℕ → Option ℕ → Reply
reply_after w order c None = record { lines = []; end = None }
reply_after w order c (Some k) = (w.run c (table_at w order k)).reply

-- the number of commits before a call's own; those up to the start of an answered call
abbrev pub commits_before : List ℕ → List ℕ → ℕ → ℕ → Option ℕ
commits_before order answered start c = if list_any (λ d. d == c) answered then Some start else position (λ d. d == c) order

-- Reply: the reply of a call alone after these commits
abbrev pub reply_in : Batch → Schedule → ℕ → Reply
reply_in w s c = reply_after w s.order c (commits_before s.order s.answered (start_in s.calls c) c)

-- the reply of a call of the order, alone after those before it; that of an answered call, alone after those up to its
-- start
abbrev pub IsReply : Batch → List ℕ → List ℕ → ℕ → ℕ → Reply → Type 0
IsReply w order answered start c reply = (k : ℕ) × (commits_before order answered start c ≡ Some k) × (k ≤ length order) × (reply ≡ (w.run c (table_at w order k)).reply)

abbrev pub round_starts_of : Option Live → List RoundStart
round_starts_of None = []
round_starts_of (Some l) = l.round_starts

-- a call in its place, with its rounds
abbrev pub history_line : Batch → Schedule → Place → HistoryLine
history_line w s p = record { commit = p.commit; call = p.call; rounds = rounds_of w s.order p.call (round_starts_of (slice_get s.calls p.call)) }

abbrev pub outcome_at : Batch → Schedule → List Event → Outcome
outcome_at w s es = record {
  replies = map (reply_in w s) (first_numbers w.count);
  history = map (history_line w s) (places s);
  journal = es;
  tables = table_at w s.order (length s.order);
}

-- the outcome of a journal
abbrev pub outcome_of : Batch → List Event → Outcome
outcome_of w es = outcome_at w (schedule_of w es) es

-- The journal of one worker

-- the event that ends a call: its answer if it is read only, and else its commit
abbrev pub ending : Bool → ℕ → Event
ending true c = R c
ending false c = C c

-- a call begins and ends, if this tells which calls are read only
abbrev pub turn : (ℕ → Bool) → ℕ → List Event
turn read_only c = B c ∷ ending (read_only c) c ∷ []

-- each of the first n calls begins and ends before the next begins
abbrev pub in_turn : (ℕ → Bool) → ℕ → List Event
in_turn read_only n = flat_map (turn read_only) (first_numbers n)

-- whether the event isn't a collection
abbrev pub is_of_call : Event → Bool
is_of_call (B c) = true
is_of_call (S c) = true
is_of_call (A c) = true
is_of_call (M c) = true
is_of_call (C c) = true
is_of_call (X c) = true
is_of_call (R c) = true
is_of_call G = false

-- the events without collections
abbrev pub without_collections : List Event → List Event
without_collections = filter is_of_call

-- whether a text has a line for the event: statements and collections have none
abbrev pub has_line : Event → Bool
has_line (B c) = true
has_line (S c) = false
has_line (A c) = true
has_line (M c) = true
has_line (C c) = true
has_line (X c) = true
has_line (R c) = true
has_line G = false

-- the events that a text shows
abbrev pub shown : List Event → List Event
shown = filter has_line

-- the outcome of one worker's journal, in which old versions may be collected between any events
pub record IsOutcomeInTurn (w : Batch) (n : ℕ) (o : Outcome) : Type 0 where
  pub journal : List Event
  pub turns : without_collections journal ≡ in_turn w.read_only n
  pub outcome : o ≡ outcome_of w journal
