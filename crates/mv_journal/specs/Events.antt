-- Defines how events are written.
use Rattle.std.specs.Prelude.{ℕ, ◌<◌, ◌^◌, List, [], ◌∷◌, ◌++◌, decimal, codes}
use Rattle.std.specs.List.{flat_map}
use Rattle.mv_journal.specs.declared.event.Event.{Event}
use Rattle.mv_journal.specs.declared.event.Event.TheVariants.{B, S, A, M, C, X, R, G}

-- its letter, and except for a collection a space and the number of its call
abbrev pub event_text : Event → List ℕ
event_text (B call) = codes "B " ++ decimal call
event_text (S call) = codes "S " ++ decimal call
event_text (A call) = codes "A " ++ decimal call
event_text (M call) = codes "M " ++ decimal call
event_text (C call) = codes "C " ++ decimal call
event_text (X call) = codes "X " ++ decimal call
event_text (R call) = codes "R " ++ decimal call
event_text G = codes "G"

-- the events, each on its line
abbrev pub events_text : List Event → List ℕ
events_text events = flat_map (λ event. event_text event ++ 10 ∷ []) events

-- the number of its call fits in 32 bits
abbrev pub IsInRange : Event → Type 0
IsInRange (B call) = call < 2 ^ 32
IsInRange (S call) = call < 2 ^ 32
IsInRange (A call) = call < 2 ^ 32
IsInRange (M call) = call < 2 ^ 32
IsInRange (C call) = call < 2 ^ 32
IsInRange (X call) = call < 2 ^ 32
IsInRange (R call) = call < 2 ^ 32
IsInRange G = Unit {0}
