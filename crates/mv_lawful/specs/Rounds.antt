-- The rounds of a call, the number of records that each executes, and the bounds on them. This project's own.
use Rattle.std.specs.Prelude.{◌≤◌, ◌<◌, ℕ, ◌+◌, ◌==◌, Bool, false, List, [], ◌∷◌, Option, Some, None, map, length, slice_get}
use Rattle.std.specs.List.{filter}
use Rattle.std.specs.Option.{ForSome}
use Rattle.mv_journal.specs.declared.event.Event.{Event}
use Rattle.mv_journal.specs.declared.event.Event.TheVariants.{B, S, A, M, C, X, R, G}
use Rattle.mv_journal.specs.declared.outcome.Mark.{Mark}
use Rattle.mv_journal.specs.declared.outcome.Mark.TheVariants.{Plain, Exclusive, Moved}
use Rattle.mv_journal.specs.declared.outcome.Round.{Round}
use Rattle.mv_history.specs.Kept.{executions}
use Rattle.mv_lawful.specs.Batch.{Batch, records_at, changes_up_to}
use Rattle.mv_lawful.specs.Lawful.{RoundStart, Schedule, after, beginning}

-- Rounds

-- a round without its number
abbrev pub round_start_of : Round → RoundStart
round_start_of r = record { start = r.start; mark = r.mark }

abbrev pub round_starts_in : List Round → List RoundStart
round_starts_in rs = map round_start_of rs

-- each round began after at most so many commits
abbrev pub WithinRounds : ℕ → List RoundStart → Type 0
WithinRounds n [] = Unit {0}
WithinRounds n (t ∷ ts) = (t.start ≤ n) × WithinRounds n ts

-- the start of the last round
abbrev pub last_round_start : List RoundStart → ℕ
last_round_start [] = 0
last_round_start (t ∷ []) = t.start
last_round_start (t ∷ u ∷ us) = last_round_start (u ∷ us)

-- the start of the last round, or this one
abbrev pub last_turn_or : ℕ → List RoundStart → ℕ
last_turn_or old [] = old
last_turn_or old (t ∷ ts) = last_turn_or t.start ts

-- Numbers

-- rounds, the last of which has this number
abbrev pub numbered : Option ℕ → List Round → List Round
numbered n [] = []
numbered n (r ∷ []) = record r { count = n } ∷ []
numbered n (r ∷ s ∷ rs) = r ∷ numbered n (s ∷ rs)

-- the number of the last round
abbrev pub last_number : List Round → Option ℕ
last_number [] = None
last_number (r ∷ []) = r.count
last_number (r ∷ s ∷ rs) = last_number (s ∷ rs)

-- rounds before one with this mark: a move clears the number of the round before it
abbrev pub closed : Mark → List Round → List Round
closed Plain rs = rs
closed Exclusive rs = rs
closed Moved rs = numbered None rs

-- a round that begins after n commits, with its number
abbrev pub counted : ℕ → Mark → ℕ → Round
counted n mark k = record { start = n; count = Some k; mark = mark }

-- the same without its number
abbrev pub uncounted : ℕ → Mark → Round
uncounted n mark = record { start = n; count = None; mark = mark }

-- Runs

-- the number of records of a full run of a call at a start
abbrev pub whole_run : Batch → List ℕ → ℕ → ℕ → ℕ
whole_run w order c start = length (records_at w order start c)

-- the number of records that a repair from an old start to a new one executes
abbrev pub repair_run : Batch → List ℕ → ℕ → ℕ → ℕ → ℕ
repair_run w order c old new = executions (records_at w order old c) (records_at w order new c) (changes_up_to w order old new)

-- the number of records of a round after one that began at the old start: a repair executes those that aren't kept, a
-- moved call all
abbrev pub later_run : Batch → List ℕ → ℕ → ℕ → ℕ → Mark → ℕ
later_run w order c old start Plain = repair_run w order c old start
later_run w order c old start Exclusive = repair_run w order c old start
later_run w order c old start Moved = whole_run w order c start

-- a round that a move ended has no number
abbrev pub unless_moved : ℕ → List RoundStart → Option ℕ
unless_moved n [] = Some n
unless_moved n (t ∷ ts) = by_mark n t.mark where
  by_mark : ℕ → Mark → Option ℕ
  by_mark n Plain = Some n
  by_mark n Exclusive = Some n
  by_mark n Moved = None

abbrev pub round : RoundStart → Option ℕ → Round
round t number = record { start = t.start; count = number; mark = t.mark }

-- the rounds after one that began at the old start
abbrev pub later_rounds : Batch → List ℕ → ℕ → ℕ → List RoundStart → List Round
later_rounds w order c old [] = []
later_rounds w order c old (t ∷ ts) = round t (unless_moved (later_run w order c old t.start t.mark) ts) ∷ later_rounds w order c t.start ts

-- Runs: the rounds of a call with their numbers. The first one is a full run.
abbrev pub rounds_of : Batch → List ℕ → ℕ → List RoundStart → List Round
rounds_of w order c [] = []
rounds_of w order c (t ∷ ts) = round t (unless_moved (whole_run w order c t.start) ts) ∷ later_rounds w order c t.start ts

-- the start of the last round
abbrev pub last_start : List Round → ℕ
last_start [] = 0
last_start (r ∷ []) = r.start
last_start (r ∷ s ∷ rs) = last_start (s ∷ rs)

-- Bounds

-- whether the event is a repair or a move of the call
abbrev pub is_round : ℕ → Event → Bool
is_round c (A d) = d == c
is_round c (M d) = d == c
is_round c (B d) = false
is_round c (S d) = false
is_round c (C d) = false
is_round c (X d) = false
is_round c (R d) = false
is_round c G = false

abbrev pub is_repair : ℕ → Event → Bool
is_repair c (A d) = d == c
is_repair c (M d) = false
is_repair c (B d) = false
is_repair c (S d) = false
is_repair c (C d) = false
is_repair c (X d) = false
is_repair c (R d) = false
is_repair c G = false

-- a call has at most one repair or move more than there are rounds
abbrev pub AreFew : Batch → List Event → Type 0
AreFew w es = (c : ℕ) → length (filter (is_round c) es) ≤ w.options.rounds + 1

-- more commits than the horizon have been made since the start
abbrev pub IsPast : Option ℕ → ℕ → ℕ → Type 0
IsPast None start n = ⊥
IsPast (Some horizon) start n = start + horizon < n

-- a call moves only if a horizon is given and its start is further back
abbrev pub MayMove : Batch → Schedule → Event → Type 0
MayMove w s (M c) = ForSome (slice_get s.calls c) (λ l. IsPast w.options.horizon l.start (length s.order))
MayMove w s (B c) = Unit {0}
MayMove w s (S c) = Unit {0}
MayMove w s (A c) = Unit {0}
MayMove w s (C c) = Unit {0}
MayMove w s (X c) = Unit {0}
MayMove w s (R c) = Unit {0}
MayMove w s G = Unit {0}

abbrev pub MovesLate : Batch → Schedule → List Event → Type 0
MovesLate w s [] = Unit {0}
MovesLate w s (e ∷ es) = MayMove w s e × MovesLate w (after w s e) es

-- the journal of a run has few rounds, and only calls with old starts move
pub record IsBounded (w : Batch) (es : List Event) : Type 0 where
  pub few : AreFew w es
  pub late : MovesLate w beginning es
