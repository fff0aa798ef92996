use Rattle.std.proofs.Common.{◌≡◌, ◌++◌, drop}
use Rattle.std.specs.Option.{option_copied}
use Rattle.mv_resolve.specs.Building.{columns_in, items_of}
use Rattle.mv_resolve.proofs.build_exprs.set_items.Given as goal

abbrev pub invariant-loop-item : goal.invariant-loop-item
invariant-loop-item l = l.all ++ items_of l.slots (columns_in (option_copied l.table)) (drop l.item-index l.items) ≡ items_of l.slots (columns_in (option_copied l.table)) l.items
