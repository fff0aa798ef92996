use Rattle.std.proofs.Common.{◌≡◌, ◌++◌, drop, map}
use Rattle.std.specs.List.{flat_map}
use Rattle.mv_recorded.specs.Reading.{variables}
use Rattle.mv_recorded.proofs.reads.add_items.Given as goal

abbrev pub invariant-loop-item : goal.invariant-loop-item
invariant-loop-item l = l.found ++ flat_map variables (map (λ i. i.right) (drop l.item-index l.items)) ≡ l.fn.found ++ flat_map variables (map (λ i. i.right) l.items)
