-- Defines which row a scan in key order meets first. This project's own.
use Rattle.std.specs.Prelude.{◌≡◌, ◌<◌, ◌+◌, ℕ, true, List, [], ◌∷◌, ◌++◌, Option, Some, None, length}
use Rattle.std.specs.Option.{unwrap_or}
use Rattle.std.specs.Ordering.{is_le}
use Rattle.std.specs.declared.cmp.Ordering.TheVariants.{Less}
use Rattle.mv_values.specs.declared.value.Value.{Value}
use Rattle.mv_values.specs.declared.pred.Test.{Test}
use Rattle.mv_values.specs.Columns.{column_of}
use Rattle.mv_values.specs.Order.{value_order, key_order}
use Rattle.mv_table.specs.declared.scan.Direction.{Direction}
use Rattle.mv_table.specs.declared.scan.Direction.TheVariants.{Forward, Backward}
use Rattle.mv_table.specs.Spans.{Admits}

module _ {A : Type 0} where
  abbrev pub first : List A → Option A
  first [] = None
  first (x ∷ xs) = Some x

  abbrev pub last : List A → Option A
  last [] = None
  last (x ∷ xs) = Some (unwrap_or (last xs) x)

  -- the item that a scan meets first, if there is one
  abbrev pub foremost : Direction → List A → Option A
  foremost Forward xs = first xs
  foremost Backward xs = last xs

  -- the items with one more that a scan meets before them
  abbrev pub with_foremost : Direction → A → List A → List A
  with_foremost Forward x xs = x ∷ xs
  with_foremost Backward x xs = xs ++ x ∷ []

-- of two keys that the tests admit, the greater one has no lesser value at the place
abbrev pub NeverFallsAt : List Test → ℕ → Type 0
NeverFallsAt tests place = (a b : List Value) → place < length a → place < length b → Admits tests a → Admits tests b → key_order a b ≡ Less → is_le (value_order (column_of a place) (column_of b place)) ≡ true

-- it has a greater one, where the keys end there
abbrev pub RisesAt : List Test → ℕ → Type 0
RisesAt tests place = (a b : List Value) → length a ≡ place + 1 → length b ≡ place + 1 → Admits tests a → Admits tests b → key_order a b ≡ Less → value_order (column_of a place) (column_of b place) ≡ Less
