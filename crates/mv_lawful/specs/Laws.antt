-- The laws of journals. This project's own.
use Rattle.std.specs.Prelude.{◌≡◌, ◌≤◌, ◌<◌, ℕ, ◌==◌, true, false, List, [], ◌∷◌, Some, None, length, slice_get}
use Rattle.std.specs.List.{All, Contains, filter}
use Rattle.mv_values.specs.Counts.{first_numbers}
use Rattle.mv_journal.specs.declared.event.Event.{Event}
use Rattle.mv_journal.specs.declared.event.Event.TheVariants.{B, S, A, M, C, X, R, G}
use Rattle.mv_lawful.specs.Batch.{Batch}
use Rattle.mv_lawful.specs.Lawful.{RoundStart, Live, Schedule, Lawful, AllAllowed, beginning, after, schedule_of, is_stale, used}
use Rattle.mv_lawful.specs.Places.{standing}
use Rattle.mv_lawful.specs.Rounds.{is_round, is_repair, IsPast, IsBounded}
use Rattle.mv_lawful.specs.Outcomes.{in_turn, without_collections, shown, outcome_of}

-- Low

-- no event lowers low
abbrev pub LowNeverFalls : Type 0
LowNeverFalls = (w : Batch) (s : Schedule) (e : Event) → s.low ≤ (after w s e).low

-- without a horizon no live call is stale, whatever the events
abbrev pub NoneIsStale : Type 0
NoneIsStale =
    (w : Batch) (es : List Event) → w.options.horizon ≡ None
    → (c : ℕ) (l : Live) → slice_get (schedule_of w es).calls c ≡ Some l → l.done ≡ false → is_stale (schedule_of w es) l ≡ false

-- whatever the events, a live call is stale only if a horizon is given and more commits than that were made since its
-- start
abbrev pub StaleIsPast : Type 0
StaleIsPast =
    (w : Batch) (es : List Event) (c : ℕ) (l : Live) → slice_get (schedule_of w es).calls c ≡ Some l → l.done ≡ false → is_stale (schedule_of w es) l ≡ true
    → IsPast w.options.horizon l.start (length (schedule_of w es).order)

-- Rounds

-- a live call has used a round for each of its A and M events
abbrev pub RoundsAreCounted : Type 0
RoundsAreCounted =
    (w : Batch) (es : List Event) → AllAllowed w beginning es
    → (c : ℕ) (l : Live) → slice_get (schedule_of w es).calls c ≡ Some l → l.done ≡ false → length (filter (is_round c) es) ≡ used l

-- a lawful journal has at most as many A events of a call as there are rounds
abbrev pub RepairsAreFew : Type 0
RepairsAreFew = (w : Batch) (es : List Event) → Lawful w es → (c : ℕ) → length (filter (is_repair c) es) ≤ w.options.rounds

-- Orders

abbrev pub first_start : List RoundStart → ℕ
first_start [] = 0
first_start (t ∷ ts) = t.start

-- the order has each call exactly once, and no other. No call has a greater first start than the number of commits before
-- its own; an answered call stands at its last start, which is no less than the first one
pub record IsSerial (w : Batch) (s : Schedule) : Type 0 where
  pub calls : All (λ c. c < w.count) (standing s)
  pub once : (c : ℕ) → c < w.count → length (filter (λ d. d == c) (standing s)) ≡ 1
  pub after_begin : (k c : ℕ) (l : Live) → slice_get s.order k ≡ Some c → slice_get s.calls c ≡ Some l → first_start l.round_starts ≤ k
  pub answered : (c : ℕ) (l : Live) → Contains s.answered c → slice_get s.calls c ≡ Some l → (first_start l.round_starts ≤ l.start) × (l.start ≤ length s.order)

abbrev pub LawfulIsSerial : Type 0
LawfulIsSerial = (w : Batch) (es : List Event) → Lawful w es → IsSerial w (schedule_of w es)

-- the event is of one of the first n calls, or of no call
abbrev pub IsOfCalls : ℕ → Event → Type 0
IsOfCalls n (B c) = c < n
IsOfCalls n (S c) = c < n
IsOfCalls n (A c) = c < n
IsOfCalls n (M c) = c < n
IsOfCalls n (C c) = c < n
IsOfCalls n (X c) = c < n
IsOfCalls n (R c) = c < n
IsOfCalls n G = Unit {0}

-- the events of a lawful journal are of calls that exist
abbrev pub LawfulNamesCalls : Type 0
LawfulNamesCalls = (w : Batch) (es : List Event) → Lawful w es → All (IsOfCalls w.count) es

-- a lawful and bounded journal whose order is the call order
pub record IsInTurn (w : Batch) (es : List Event) : Type 0 where
  pub lawful : Lawful w es
  pub bounded : IsBounded w es
  pub order : standing (schedule_of w es) ≡ first_numbers w.count

-- the journal of one worker is such a journal, whatever the calls do
abbrev pub InTurnIsLawful : Type 0
InTurnIsLawful = (w : Batch) → IsInTurn w (in_turn w.read_only w.count)

-- collections change nothing of an outcome but its events
abbrev pub CollectionsAreUnseen : Type 0
CollectionsAreUnseen = (w : Batch) (es : List Event) → outcome_of w es ≡ record (outcome_of w (without_collections es)) { journal = es }

-- Shown events

-- a text has a line for each event that it shows
abbrev pub ShownIsAllShown : Type 0
ShownIsAllShown = (es : List Event) → shown (shown es) ≡ shown es

-- the events that the text of a lawful journal shows are a lawful journal too
abbrev pub ShownIsLawful : Type 0
ShownIsLawful = (w : Batch) (es : List Event) → Lawful w es → Lawful w (shown es)

-- they have as few rounds, and move as late
abbrev pub ShownIsBounded : Type 0
ShownIsBounded = (w : Batch) (es : List Event) → IsBounded w es → IsBounded w (shown es)

-- they have the same outcome but for its events, whether the journal is lawful or not
abbrev pub ShownHasTheOutcome : Type 0
ShownHasTheOutcome = (w : Batch) (es : List Event) → outcome_of w (shown es) ≡ record (outcome_of w es) { journal = shown es }
