-- The laws of changes and of paths, whatever run they come from. This project's own.
use Rattle.std.specs.Prelude.{◌≡◌, ℕ, true, List, [], ◌∷◌, ◌++◌, None, length}
use Rattle.std.specs.List.{flat_map}
use Rattle.mv_values.specs.declared.rows.Keyed.{Keyed}
use Rattle.mv_record.specs.declared.record.Record.{Record}
use Rattle.mv_record.specs.Writes.{AreRising}
use Rattle.mv_history.specs.declared.change.Change.{Change}
use Rattle.mv_history.specs.Changes.{changes_between, Covers, ListsChanges}
use Rattle.mv_history.specs.Hits.{first_hit, is_unhit}
use Rattle.mv_history.specs.Kept.{Placed, with_paths, next_placed}

-- a statement of two databases with the same number of tables, whose keys rise
abbrev pub OfRising : (List (List Keyed) → List (List Keyed) → Type 0) → Type 0
OfRising P = (old new : List (List Keyed)) → AreRising old → AreRising new → length old ≡ length new → P old new

-- the changes between two databases whose keys rise cover the step from one to the other
abbrev pub ChangesCover : Type 0
ChangesCover = OfRising (λ old new. Covers (changes_between old new) old new)

-- the changes between two databases are listed in order, each key once
abbrev pub ChangesAreListed : Type 0
ChangesAreListed = OfRising (λ old new. ListsChanges (changes_between old new) old new)

-- no other list has them in order, each key once
abbrev pub OnlyTheseAreListed : Type 0
OnlyTheseAreListed = OfRising (λ old new. (changes : List Change) → ListsChanges changes old new → changes ≡ changes_between old new)

-- changes that cover two steps one after the other cover both together
abbrev pub ChangesJoin : Type 0
ChangesJoin = (cs ds : List Change) (old mid new : List (List Keyed)) → Covers cs old mid → Covers ds mid new → Covers (cs ++ ds) old new

-- if validation finds no hit, no change of any commit hits a record
abbrev pub NoHitIsUnhit : Type 0
NoHitIsUnhit = (number : ℕ) (commits : List (List Change)) (records : List Record) → first_hit number commits [] records ≡ None → is_unhit (flat_map (λ changes. changes) commits) [] records ≡ true

-- the paths of the first records of a run don't depend on the records after them
abbrev pub FrontKeepsPaths : Type 0
FrontKeepsPaths = (front : List Record) (r : Record) (behind : List Record) → (more : List Placed) × (with_paths (front ++ r ∷ behind) ≡ with_paths front ++ next_placed front r ∷ more)
