use Rattle.std.proofs.Common.{◌≡◌, ◌++◌, drop}
use Rattle.std.specs.List.{flat_map}
use Rattle.mv_recorded.specs.Asking.{columns_in}
use Rattle.mv_recorder.proofs.predicates.right_columns.Given as goal

abbrev pub invariant-loop-item : goal.invariant-loop-item
invariant-loop-item l = l.all ++ flat_map (λ i. columns_in i.right) (drop l.item-index l.items) ≡ flat_map (λ i. columns_in i.right) l.items
