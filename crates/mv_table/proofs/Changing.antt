-- An item that is lent to be changed in place.
use Rattle.std.proofs.Common.{◌≡◌, cond, List, Option, Some, None, refl, ◌∙◌}
use Rattle.std.specs.Option.{OnSome}
use Rattle.std.specs.Ordering.{is_eq}
use Rattle.std.specs.Map.{set_value}
use Rattle.std.specs.BTreeMap.{is_at}
use Rattle.mv_values.specs.declared.value.Value.{Value}
use Rattle.mv_values.specs.Order.{key_order}
use Rattle.mv_table.specs.Entries.{item_of, KeysRise}
use Rattle.mv_table.specs.Lending.{HasItem}
use Rattle.mv_table.proofs.Storing.{value_set}

pub on_some : {A : Type 0} (o : Option A) (P : Type 0) → ((x : A) → o ≡ Some x → P) → OnSome o P
on_some None P f = tt
on_some (Some x) P f = f x refl

module _ {T : Type 0} where
  pub lent_item : (key : List Value) (w was : T) (old new : List (List Value × T)) → KeysRise old → item_of old key ≡ Some was → new ≡ set_value (is_at (key_order key)) old w
      → ((other : List Value) → item_of new other ≡ cond (is_eq (key_order key other)) (Some w) (item_of old other)) → KeysRise new → HasItem key w old new
  lent_item key w was old new rising there is at more = record { are = is ∙ value_set key w was old rising there; at = at; rising = more }
