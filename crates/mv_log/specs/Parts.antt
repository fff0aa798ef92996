-- Parts of lists.
use Rattle.std.specs.Prelude.{◌≤◌, ℕ, List, [], ◌∷◌, Option, None, Some, take, drop}
use Rattle.mv_log.specs.declared.head.Range.{Range}

-- the part of a list
abbrev pub part : {X : Type 0} → Range → List X → List X
part r xs = drop r.from (take r.to xs)

-- the range is in order, and within a list of this length
pub record Fits (n : ℕ) (r : Range) : Type 0 where
  pub order : r.from ≤ r.to
  pub within : r.to ≤ n

-- the first item
abbrev pub first_of : {X : Type 0} → List X → Option X
first_of [] = None
first_of (x ∷ xs) = Some x
