-- The keys of own writes, taken from either end.
use Rattle.std.specs.Prelude.{◌≡◌, ℕ, Bool, true, ◌&&◌, ◌==◌, List, [], map}
use Rattle.std.specs.List.{filter}
use Rattle.std.specs.Ordering.{is_lt}
use Rattle.mv_values.specs.declared.value.Value.{Value}
use Rattle.mv_values.specs.declared.pred.Pred.{Pred}
use Rattle.mv_values.specs.Order.{key_order}
use Rattle.mv_values.specs.Preds.{admits}
use Rattle.mv_table.specs.declared.scan.Direction.{Direction}
use Rattle.mv_table.specs.declared.scan.Direction.TheVariants.{Forward, Backward}
use Rattle.mv_undo.specs.Owned.{Owned}
use Rattle.mv_undo.specs.Owning.{earlier, is_sought}
use Rattle.mv_undo.specs.Indexing.{owned_at, owned_on, HasNone}

-- a scan in this direction meets the first key before the second
abbrev pub meets_first : Direction → List Value → List Value → Bool
meets_first Forward a b = is_lt (key_order a b)
meets_first Backward a b = is_lt (key_order b a)

-- the key of the write at a place is one of the predicate's table that the predicate seeks among earlier writes
abbrev pub is_sought_at : Pred → ℕ → List Owned → ℕ → Bool
is_sought_at pred number items place = ((owned_at items place).write.table == pred.table) && is_sought pred (earlier number items) (owned_at items place).write.key

-- the keys at these places that the predicate seeks
abbrev pub sought_keys : Pred → ℕ → List Owned → List ℕ → List (List Value)
sought_keys pred number items places = map (λ place. (owned_at items place).write.key) (filter (is_sought_at pred number items) places)

-- among these places are those of all keys with writes that the predicate admits
abbrev pub HasAdmitted : Pred → List Owned → List ℕ → Type 0
HasAdmitted pred items places = (key : List Value) → admits pred key ≡ true → HasNone items pred.table key places → owned_on pred.table key items ≡ []
