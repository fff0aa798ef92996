use Rattle.std.proofs.Common.{◌≡◌, drop}
use Rattle.std.specs.List.{list_all}
use Rattle.std.specs.Ordering.{is_eq}
use Rattle.mv_values.specs.Order.{value_order}
use Rattle.mv_eval.proofs.find.is_under.Given as goal

abbrev pub invariant-loop-at : goal.invariant-loop-at
invariant-loop-at l = list_all (λ w. is_eq (value_order w l.value)) (drop l.at l.item.key) ≡ list_all (λ w. is_eq (value_order w l.value)) l.item.key
