-- Defines what stands in the room for numbers that aren't there.
use Rattle.std.specs.Prelude.{◌≡◌, ℕ, ℤ, pos, List, [], ◌∷◌, drop}

-- the room of a key's numbers without any
abbrev pub zeros : List ℤ
zeros = pos 0 ∷ pos 0 ∷ pos 0 ∷ pos 0 ∷ []

-- from this place on there are none
abbrev pub HasNoMore : ℕ → List ℤ → Type 0
HasNoMore len items = drop len items ≡ drop len zeros
