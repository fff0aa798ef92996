-- Items that are kept of a list, one after another.
use Rattle.std.specs.Prelude.{◌≡◌, ◌≤◌, ◌+◌, ◌++◌, ◌∷◌, ℕ, List, [], length, take, drop, slice_index_or}
use Rattle.mv_values.specs.declared.patch.Assign.{Assign}
use Rattle.mv_chain.specs.Versions.{compact}

-- the item at a place stands after the first ones, and the items after the place are as they were
pub record HasKeptColumn (to at : ℕ) (d : Assign) (old new : List Assign) : Type 0 where
  pub many : length new ≡ length old
  pub taken : take (to + 1) new ≡ take to old ++ slice_index_or old at d ∷ []
  pub rest : drop (at + 1) new ≡ drop (at + 1) old

-- of the items before a place those are kept that no later one overwrites, and the others are as they were
pub record IsCompacted (old : List Assign) (kept at : ℕ) (now : List Assign) : Type 0 where
  pub many : length now ≡ length old
  pub few : kept ≤ at
  pub are : take kept now ++ compact (drop at old) ≡ compact old
  pub rest : drop at now ≡ drop at old
