-- Defines what a map is after a `&mut` to one of its items has ended.
use Rattle.std.specs.Prelude.{◌≡◌, List, Option, Some, if◌then◌else◌}
use Rattle.std.specs.Option.{OnSome}
use Rattle.std.specs.Borrow.{Fml, RattleType, MutBor, LendsSo}
use Rattle.std.specs.Ordering.{is_eq}
use Rattle.mv_values.specs.declared.value.Value.{Value}
use Rattle.mv_values.specs.Order.{key_order}
use Rattle.mv_table.specs.Entries.{item_of, with_item, KeysRise}
use Rattle.mv_table.specs.contracts.key_map.KeyMap.{the_row}

-- the entries have this item under the key, and all else is unchanged
pub record HasItem {T : Type 0} (key : List Value) (item : T) (old new : List (List Value × T)) : Type 0 where
  pub are : new ≡ with_item key (Some item) old
  pub at : (other : List Value) → item_of new other ≡ (if is_eq (key_order key other) then Some item else item_of old other)
  pub rising : KeysRise new

-- the map ends with the final value of r under the key; if r is none, it is unchanged
abbrev pub LendsItem : (T : RattleType) → MutBor (List (List Value × T.Denot)) → List Value → Option (MutBor T.Denot) → Fml
LendsItem T m key r = LendsSo (the_row T) T m r (λ n w. OnSome r (HasItem key w m.now n)) (λ n. n ≡ m.now)
