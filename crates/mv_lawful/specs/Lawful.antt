-- The law of journals: which events are allowed, and what they do. That a call is validated and repaired instead of
-- aborted is the paper's (Dashti, Basil John, Shaikhha and Koch, SIGMOD 2017). The events and their law are this
-- project's own.
use Rattle.std.specs.Prelude.{◌≡◌, ℕ, ◌+◌, ◌-◌, ◌==◌, nat_lt, min, max, Bool, true, false, not, ◌&&◌, List, [], ◌∷◌, ◌++◌, Option, Some, None, length, slice_get, slice_set, if◌then◌else◌}
use Rattle.std.specs.Option.{option_map, is_some}
use Rattle.mv_journal.specs.declared.event.Event.{Event}
use Rattle.mv_journal.specs.declared.event.Event.TheVariants.{B, S, A, M, C, X, R, G}
use Rattle.mv_journal.specs.declared.outcome.Mark.{Mark}
use Rattle.mv_journal.specs.declared.outcome.Mark.TheVariants.{Plain, Exclusive, Moved}
use Rattle.mv_lawful.specs.declared.fault.EventFault.{EventFault}
use Rattle.mv_lawful.specs.declared.fault.EventFault.TheVariants.{Order, Kind, Stale, Conflict, Idle, Rounds}
use Rattle.mv_lawful.specs.declared.fault.Wrong.{Wrong}
use Rattle.mv_lawful.specs.declared.fault.Wrong.TheVariants.{Refused, Open}
use Rattle.mv_lawful.specs.Batch.{Batch, records_at, hit_of}

-- The state after events

-- a round of a call: its start, which is the number of commits before it, and how it came about
pub record RoundStart : Type 0 where
  pub start : ℕ
  pub mark : Mark

-- a call that has begun: its start, its rounds, the number of its S events, and whether it is done: it has committed, or
-- was answered
pub record Live : Type 0 where
  pub start : ℕ
  pub round_starts : List RoundStart
  pub steps : ℕ
  pub done : Bool

-- the calls that have committed, in order; the calls that have begun, by number; low; and the calls that were answered, in
-- order. The number of calls that have begun is the number of the next call
pub record Schedule : Type 0 where
  pub order : List ℕ
  pub calls : List Live
  pub low : ℕ
  pub answered : List ℕ

abbrev pub beginning : Schedule
beginning = record { order = []; calls = []; low = 0; answered = [] }

-- Refusals

-- the number of repairs and moves of a call
abbrev pub used : Live → ℕ
used l = length l.round_starts - 1

-- whether the start of the call is below low
abbrev pub is_stale : Schedule → Live → Bool
is_stale s l = nat_lt l.start s.low

-- whether a commit after its start hits a record of its full run
abbrev pub is_hit : Batch → Schedule → ℕ → Live → Bool
is_hit w s c l = is_some (hit_of w s.order l.start c)

-- whether it is in its first round, which has a statement left
abbrev pub has_step : Batch → Schedule → ℕ → Live → Bool
has_step w s c l = (used l == 0) && nat_lt l.steps (length (records_at w s.order l.start c))

-- whether it may be repaired once more
abbrev pub has_round : Batch → Live → Bool
has_round w l = nat_lt (used l) w.options.rounds

-- the fault if the condition doesn't hold, else the later one
abbrev pub unless : Bool → EventFault → Option EventFault → Option EventFault
unless true f later = later
unless false f later = Some f

-- an event of a call that isn't live is out of order
abbrev pub of_live : Option Live → (Live → Option EventFault) → Option EventFault
of_live None f = Some Order
of_live (Some l) f = unless (not l.done) Order (f l)

abbrev pub of_call : Schedule → ℕ → (Live → Option EventFault) → Option EventFault
of_call s c f = of_live (slice_get s.calls c) f

-- why an event is refused, if it is; the reasons are tried in this order
abbrev pub refusal : Batch → Schedule → Event → Option EventFault
refusal w s (B c) = unless ((c == length s.calls) && nat_lt c w.count) Order None
refusal w s (S c) = of_call s c (λ l. unless (has_step w s c l) Order (unless (not (is_stale s l)) Stale None))
refusal w s (A c) = of_call s c (λ l. unless (not (w.read_only c)) Kind (unless (not (is_stale s l)) Stale (unless (is_hit w s c l) Idle (unless (has_round w l) Rounds None))))
refusal w s (M c) = of_call s c (λ l. None)
refusal w s (C c) = of_call s c (λ l. unless (not (w.read_only c)) Kind (unless (not (is_stale s l)) Stale (unless (not (is_hit w s c l)) Conflict None)))
refusal w s (X c) = of_call s c (λ l. unless (not (w.read_only c)) Kind (unless (not (is_stale s l)) Stale (unless (is_hit w s c l) Idle (unless (not (has_round w l)) Rounds None))))
refusal w s (R c) = of_call s c (λ l. unless (w.read_only c) Kind (unless (not (is_stale s l)) Stale None))
refusal w s G = None

-- Effects of events

abbrev pub change_live : Option Live → (Live → Live) → List Live → ℕ → List Live
change_live None f ls c = ls
change_live (Some l) f ls c = slice_set ls c (f l)

-- changes a call
abbrev pub with_call : Schedule → ℕ → (Live → Live) → Schedule
with_call s c f = record s { calls = change_live (slice_get s.calls c) f s.calls c }

-- a call that begins after n commits
abbrev pub begin : ℕ → Live
begin n = record { start = n; round_starts = record { start = n; mark = Plain } ∷ []; steps = 0; done = false }

-- adds a round that begins after n commits
abbrev pub again : ℕ → Mark → Live → Live
again n mark l = record l { start = n; round_starts = l.round_starts ++ record { start = n; mark = mark } ∷ [] }

abbrev pub finish : Live → Live
finish l = record l { done = true }

abbrev pub commit : Schedule → ℕ → Schedule
commit s c = record s { order = s.order ++ c ∷ [] }

abbrev pub answer : Schedule → ℕ → Schedule
answer s c = record s { answered = s.answered ++ c ∷ [] }

-- Low: the oldest start of a live call, or n if no call is live
abbrev pub oldest : ℕ → List Live → ℕ
oldest n [] = n
oldest n (l ∷ ls) = if l.done then oldest n ls else min l.start (oldest n ls)

-- with a horizon, no start further back counts
abbrev pub floor : ℕ → Option ℕ → ℕ
floor n None = 0
floor n (Some horizon) = n - horizon

abbrev pub next_low : Batch → Schedule → ℕ
next_low w s =
    let n : ℕ = length s.order in
    max s.low (max (oldest n s.calls) (floor n w.options.horizon))

-- the effect of an event that isn't refused
abbrev pub after : Batch → Schedule → Event → Schedule
after w s (B c) = record s { calls = s.calls ++ begin (length s.order) ∷ [] }
after w s (S c) = with_call s c (λ l. record l { steps = l.steps + 1 })
after w s (A c) = with_call s c (again (length s.order) Plain)
after w s (M c) = with_call s c (again (length s.order) Moved)
after w s (C c) = with_call (commit s c) c finish
after w s (X c) = with_call (commit s c) c (λ l. finish (again (length s.order) Exclusive l))
after w s (R c) = with_call (answer s c) c finish
after w s G = record s { low = next_low w s }

-- Whole journals

-- the state after events that aren't refused
abbrev pub reach : Batch → Schedule → List Event → Schedule
reach w s [] = s
reach w s (e ∷ es) = reach w (after w s e) es

abbrev pub schedule_of : Batch → List Event → Schedule
schedule_of w es = reach w beginning es

-- no event is refused
abbrev pub AllAllowed : Batch → Schedule → List Event → Type 0
AllAllowed w s [] = Unit {0}
AllAllowed w s (e ∷ es) = (refusal w s e ≡ None) × AllAllowed w (after w s e) es

-- the first call, from this number on, that isn't done
abbrev pub first_open : ℕ → List Live → ℕ
first_open c [] = c
first_open c (l ∷ ls) = if l.done then first_open (c + 1) ls else c

abbrev pub open_call : Batch → Schedule → Option ℕ
open_call w s =
    let c : ℕ = first_open 0 s.calls in
    if nat_lt c w.count then Some c else None

abbrev pub or_refused : ℕ → Option EventFault → Option Wrong → Option Wrong
or_refused n (Some f) later = Some (Refused n f)
or_refused n None later = later

-- the first fault of the rest of a journal, whose first event has this number
abbrev pub wrong_from : Batch → ℕ → Schedule → List Event → Option Wrong
wrong_from w n s [] = option_map Open (open_call w s)
wrong_from w n s (e ∷ es) = or_refused n (refusal w s e) (wrong_from w (n + 1) (after w s e) es)

abbrev pub wrong_with : Batch → List Event → Option Wrong
wrong_with w es = wrong_from w 1 beginning es

-- Lawful: no event is refused, and each call has committed or was answered at the end
abbrev pub Lawful : Batch → List Event → Type 0
Lawful w es = wrong_with w es ≡ None
