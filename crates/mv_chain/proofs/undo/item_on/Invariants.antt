use Rattle.std.proofs.Common.{◌≡◌, drop}
use Rattle.mv_chain.specs.Undoing.{item_on}
use Rattle.mv_chain.proofs.undo.item_on.Given as goal

abbrev pub invariant-loop-item : goal.invariant-loop-item
invariant-loop-item l = item_on l.column (drop l.item-index l.items) ≡ item_on l.column l.items
