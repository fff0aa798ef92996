-- Defines how versions are stored: the newest row, and for each commit what undoes it.
use Rattle.std.specs.Prelude.{◌==◌, ◌<◌, ⊤, ℕ, List, [], ◌∷◌, Option, Some, None, slice_set, nat_le, if◌then◌else◌}
use Rattle.std.specs.Option.{option_map}
use Rattle.mv_values.specs.declared.value.Value.{Value}
use Rattle.mv_values.specs.declared.patch.Assign.{Assign}
use Rattle.mv_values.specs.declared.patch.Patch.{Patch}
use Rattle.mv_values.specs.declared.patch.Patch.TheVariants.{Insert, Set, Delete}
use Rattle.mv_chain.specs.declared.undo.Undo.{Undo}
use Rattle.mv_chain.specs.Versions.{Commit}

-- a row with columns set, from the last item to the first
abbrev pub set_back : List Assign → List Value → List Value
set_back [] row = row
set_back (a ∷ as') row = slice_set (set_back as' row) a.column a.value

-- the value that the first item on a column has
abbrev pub item_on : ℕ → List Assign → Option Value
item_on c [] = None
item_on c (a ∷ as') = if a.column == c then Some a.value else item_on c as'

-- the row before a patch, given what undoes the patch
abbrev pub undone : Patch → Option (List Value) → Option (List Value)
undone (Insert row) now = Some row
undone (Set items) now = option_map (set_back items) now
undone Delete now = None

-- the row before these commits
abbrev pub before : List Undo → Option (List Value) → Option (List Value)
before [] now = now
before (u ∷ us) now = undone u.patch (before us now)

-- each of these commits with the row after it
abbrev pub commits_of : List Undo → Option (List Value) → List Commit
commits_of [] now = []
commits_of (u ∷ us) now = record { number = u.commit; row = before us now } ∷ commits_of us now

-- the numbers of the commits rise
abbrev pub AllLater : ℕ → List Undo → Type 0
AllLater n [] = ⊤
AllLater n (u ∷ us) = (n < u.commit) × AllLater n us

abbrev pub Rises : List Undo → Type 0
Rises [] = ⊤
Rises (u ∷ us) = AllLater u.commit us × Rises us

-- the commits after n, where their numbers rise
abbrev pub later : ℕ → List Undo → List Undo
later n [] = []
later n (u ∷ us) = if nat_le u.commit n then later n us else u ∷ us
