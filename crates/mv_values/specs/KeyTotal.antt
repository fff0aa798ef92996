-- The order of values and of keys is total.
use Rattle.std.specs.Prelude.{◌≡◌, List}
use mathlib.Core.Path.{refl}
use Rattle.std.specs.Cmp.{IsTotalOrder, int_cmp_total}
use Rattle.std.specs.Cmp.Lexicographic.{lists_total, nat_list_cmp_total}
use Rattle.std.specs.Ordering.{ordering_reverse}
use Rattle.std.specs.declared.cmp.Ordering.TheVariants.{Less, Equal}
use Rattle.mv_values.specs.declared.value.Value.{Value}
use Rattle.mv_values.specs.declared.value.Value.TheVariants.{Int, Text}
use Rattle.mv_values.specs.Order.{value_order, key_order}

antisymmetric : (x y : Value) → value_order x y ≡ ordering_reverse (value_order y x)
antisymmetric (Int m) (Int n) = int_cmp_total.antisymm m n
antisymmetric (Int m) (Text t) = refl
antisymmetric (Text s) (Int n) = refl
antisymmetric (Text s) (Text t) = nat_list_cmp_total.antisymm s t

transitive : (x y z : Value) → value_order x y ≡ Less → value_order y z ≡ Less → value_order x z ≡ Less
transitive (Int l) (Int m) (Int n) p q = int_cmp_total.trans l m n p q
transitive (Int l) y (Text t) p q = refl
transitive (Int l) (Text s) (Int n) p q = cc
transitive (Text r) (Int m) z p q = cc
transitive (Text r) (Text s) (Int n) p q = cc
transitive (Text r) (Text s) (Text t) p q = nat_list_cmp_total.trans r s t p q

congruent : (x y z : Value) → value_order x y ≡ Equal → value_order x z ≡ value_order y z
congruent (Int l) (Int m) (Int n) p = int_cmp_total.congr l m n p
congruent (Int l) (Int m) (Text t) p = refl
congruent (Int l) (Text s) z p = cc
congruent (Text r) (Int m) z p = cc
congruent (Text r) (Text s) (Int n) p = refl
congruent (Text r) (Text s) (Text t) p = nat_list_cmp_total.congr r s t p

pub value_order_total : IsTotalOrder value_order
value_order_total = record { antisymm = antisymmetric; trans = transitive; congr = congruent }

pub key_order_total : IsTotalOrder key_order
key_order_total = lists_total value_order_total
