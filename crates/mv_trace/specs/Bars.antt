-- The bars of a journal: one for each call, from its begin to its end. Their form is this project's own.
use Rattle.std.specs.Prelude.{◌≡◌, ℕ, Bool, true, false, ◌==◌, not, List, Some, ◌⊎◌, IsTrue, slice_get, length, count_by}
use Rattle.mv_journal.specs.declared.event.Event.{Event}
use Rattle.mv_journal.specs.declared.event.Event.TheVariants.{B, S, A, M, C, X, R, G}
use Rattle.mv_trace.specs.declared.bars.Bar.{Bar}

-- a call begins by the event
abbrev pub is_begin : Event → Bool
is_begin (B call) = true
is_begin (S call) = false
is_begin (A call) = false
is_begin (M call) = false
is_begin (C call) = false
is_begin (X call) = false
is_begin (R call) = false
is_begin G = false

-- this call begins by the event
abbrev pub begins : ℕ → Event → Bool
begins call (B c) = c == call
begins call (S c) = false
begins call (A c) = false
begins call (M c) = false
begins call (C c) = false
begins call (X c) = false
begins call (R c) = false
begins call G = false

-- this call ends by the event: it commits or is answered
abbrev pub ends : ℕ → Event → Bool
ends call (B c) = false
ends call (S c) = false
ends call (A c) = false
ends call (M c) = false
ends call (C c) = c == call
ends call (X c) = c == call
ends call (R c) = c == call
ends call G = false

-- there is an event at this place, and the test holds of it
abbrev pub IsAt : List Event → ℕ → (Event → Bool) → Type 0
IsAt events place test = (event : Event) × (slice_get events place ≡ Some event) × IsTrue (test event)

-- the bar of this call: it begins at one end of it and ends at the other
pub record IsBar (events : List Event) (call : ℕ) (bar : Bar) : Type 0 where
  pub from : IsAt events bar.from (begins call)
  pub to : IsAt events bar.to (ends call)

-- each bar is that of the call whose number it stands at
abbrev pub AreBars : List Event → List Bar → Type 0
AreBars events bars = (call : ℕ) (bar : Bar) → slice_get bars call ≡ Some bar → IsBar events call bar

-- the bar of this call after these events: it is at its begin until the call ends
pub record IsOpenBar (events : List Event) (call : ℕ) (bar : Bar) : Type 0 where
  pub from : IsAt events bar.from (begins call)
  pub to : (bar.from ≡ bar.to) ⊎ IsAt events bar.to (ends call)

-- the bars after these events: one for each call that has begun
pub record AreOpen (events : List Event) (bars : List Bar) : Type 0 where
  pub are : (call : ℕ) (bar : Bar) → slice_get bars call ≡ Some bar → IsOpenBar events call bar
  pub each : length bars ≡ count_by is_begin events

-- the call of the bar has ended
abbrev pub has_ended : Bar → Bool
has_ended bar = not (bar.from == bar.to)
