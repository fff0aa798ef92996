use Rattle.std.proofs.Common.{◌≡◌, ◌++◌, drop}
use Rattle.std.specs.Option.{option_copied}
use Rattle.std.specs.List.{flat_map}
use Rattle.mv_names.specs.Statements.{item_faults}
use Rattle.mv_names.proofs.statements.check_items.Given as goal

abbrev pub invariant-loop-item : goal.invariant-loop-item
invariant-loop-item l = l.faults ++ flat_map (item_faults l.scope (option_copied l.table)) (drop l.item-index l.items) ≡ l.fn.faults ++ flat_map (item_faults l.scope (option_copied l.table)) l.items
