use Rattle.std.proofs.Common.{◌≡◌, ◌++◌, drop}
use Rattle.std.specs.Prelude.{option_to_list}
use Rattle.std.specs.List.{flat_map}
use Rattle.mv_values.specs.References.{parent_of}
use Rattle.mv_catalog.specs.declared.resolved.RSetItem.{RSetItem}
use Rattle.mv_compile.proofs.reads.add_set_parents.Given as goal

abbrev pub invariant-loop-item : goal.invariant-loop-item
invariant-loop-item l =
    l.found ++ flat_map (λ (i : RSetItem). option_to_list (parent_of l.tables l.table i.column)) (drop l.item-index l.items) ≡ l.fn.found ++ flat_map (λ (i : RSetItem). option_to_list (parent_of l.tables l.table i.column)) l.items
