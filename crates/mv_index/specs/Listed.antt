-- Defines keys in a list. This project's own.
use Rattle.std.specs.Prelude.{◌≡◌, ◌≤◌, ℕ, List, AllPairs, length, map}
use Rattle.std.specs.List.Sorted.{IsPartitionPoint}
use Rattle.std.specs.declared.cmp.Ordering.TheVariants.{Less, Greater}
use Rattle.mv_values.specs.declared.value.Value.{Value}
use Rattle.mv_values.specs.Order.{key_order}

-- keys in ascending order, as a map keeps them
abbrev pub KeyList : Type 0
KeyList = List (List Value × Unit {0})

-- the keys of a list, as a map keeps them
abbrev pub listed : List (List Value) → KeyList
listed keys = map (λ key. (key, tt)) keys

-- each key is less than those after it
abbrev pub Rise : List (List Value) → Type 0
Rise keys = AllPairs (λ a b. key_order a b ≡ Less) keys

-- the keys before this index are less, and those from it on are greater
abbrev pub IsGapFor : List (List Value) → List Value → ℕ → Type 0
IsGapFor keys key at = (at ≤ length keys) × IsPartitionPoint (λ k. key_order k key ≡ Less) (λ k. key_order k key ≡ Greater) keys at
