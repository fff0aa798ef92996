-- The order of a journal: where its calls stand. An answered call stands at its start: after the commits up to it, and before
-- the next one. This project's own.
use Rattle.std.specs.Prelude.{ℕ, ◌+◌, ◌==◌, List, [], ◌∷◌, ◌++◌, Option, Some, None, map, slice_get}
use Rattle.std.specs.List.{filter}
use Rattle.mv_lawful.specs.Lawful.{Live, Schedule, begin}
pub use Rattle.mv_lawful.specs.declared.places.Place.{Place}

abbrev pub start_by : Option Live → ℕ
start_by None = 0
start_by (Some l) = l.start

-- the start of a call
abbrev pub start_in : List Live → ℕ → ℕ
start_in ls c = start_by (slice_get ls c)

-- the calls that were answered at a start, in the order of their R events
abbrev pub answered_at : Schedule → ℕ → List ℕ
answered_at s n = filter (λ c. start_in s.calls c == n) s.answered

abbrev pub answer_place : ℕ → Place
answer_place c = record { commit = None; call = c }

-- the places after so many commits, with these commits to come
abbrev pub places_from : Schedule → ℕ → List ℕ → List Place
places_from s n [] = map answer_place (answered_at s n)
places_from s n (c ∷ cs) = map answer_place (answered_at s n) ++ record { commit = Some (n + 1); call = c } ∷ places_from s (n + 1) cs

-- the places of all calls that have committed or were answered
abbrev pub places : Schedule → List Place
places s = places_from s 0 s.order

abbrev pub calls_at : List Place → List ℕ
calls_at ps = map (λ (p : Place). p.call) ps

-- Order(journal): these calls, in order
abbrev pub standing : Schedule → List ℕ
standing s = calls_at (places s)

-- the places of these calls, given the start of each call
abbrev pub places_by : List ℕ → List ℕ → List ℕ → List Place
places_by order starts answered = places (record { order = order; calls = map begin starts; low = 0; answered = answered })
