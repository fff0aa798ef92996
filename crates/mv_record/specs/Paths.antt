-- The paths of records: the number and the iteration of each enclosing FOR, outermost first, then the statement's own
-- number. Paths are compared as lists, a prefix first. What is earlier in a program has a smaller path, in one run and
-- between two runs of a call.
use Rattle.std.specs.Prelude.{◌≡◌, ℕ, List, [], ◌∷◌, ◌++◌, Option, Some, None, AllPairs, map, drop, length, nat_lt, slice_get, if◌then◌else◌}
use Rattle.std.specs.Option.{option_and_then}
use Rattle.std.specs.Ordering.{nat_cmp}
use Rattle.std.specs.Cmp.Lexicographic.{slice_cmp}
use Rattle.std.specs.declared.cmp.Ordering.TheVariants.{Less}
use Rattle.mv_record.specs.declared.record.Spot.{Spot}
use Rattle.mv_record.specs.declared.record.Record.{Record}

-- the position of a record, and the number and the iteration of each enclosing FOR
pub record Nest : Type 0 where
  pub around : List ℕ
  pub spot : Spot

abbrev pub path : Nest → List ℕ
path nest = nest.around ++ nest.spot.statement ∷ []

-- the part of a path from the enclosing statements, given the innermost one and the iterations: a FOR adds its number
-- and its iteration, an IF nothing
abbrev pub inside : Option Nest → List ℕ → List ℕ
inside None turns = []
inside (Some holder) turns =
    if nat_lt (length holder.spot.turns) (length turns) then holder.around ++ holder.spot.statement ∷ drop (length holder.spot.turns) turns
    else holder.around

-- the nest of a record after these
abbrev pub nest_of : List Nest → Record → Nest
nest_of nests r = record { around = inside (option_and_then (slice_get nests) r.parent) r.spot.turns; spot = r.spot }

abbrev pub nests_behind : List Nest → List Record → List Nest
nests_behind nests [] = []
nests_behind nests (r ∷ rs) = nest_of nests r ∷ nests_behind (nests ++ nest_of nests r ∷ []) rs

abbrev pub paths : List Record → List (List ℕ)
paths rs = map path (nests_behind [] rs)

abbrev pub IsEarlierPath : List ℕ → List ℕ → Type 0
IsEarlierPath a b = slice_cmp nat_cmp a b ≡ Less

-- each record has a smaller path than the records after it
abbrev pub PathsRise : List Record → Type 0
PathsRise rs = AllPairs IsEarlierPath (paths rs)
