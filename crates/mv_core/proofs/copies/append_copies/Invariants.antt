use Rattle.std.proofs.Common.{◌≡◌, ◌++◌, take}
use Rattle.mv_core.proofs.copies.append_copies.Given as goal

abbrev pub invariant-loop-item : goal.invariant-loop-item
invariant-loop-item g l = l.list ≡ l.fn.list ++ take l.item-index l.items
