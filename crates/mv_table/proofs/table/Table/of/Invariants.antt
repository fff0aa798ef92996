use Rattle.std.proofs.Common.{◌≡◌, take}
use Rattle.mv_table.proofs.table.Table.of.Given as goal

abbrev pub invariant-loop-item : goal.invariant-loop-item
invariant-loop-item l = l.table ≡ take l.item-index l.item-items
