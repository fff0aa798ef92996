use Rattle.std.proofs.Common.{◌≡◌, ◌++◌, drop}
use Rattle.mv_names.specs.Items.{lates}
use Rattle.mv_names.proofs.check.check_order.Given as goal

abbrev pub invariant-loop-item : goal.invariant-loop-item
invariant-loop-item l = l.faults ++ lates l.least (drop l.item-index l.items) ≡ l.fn.faults ++ lates 0 l.items
