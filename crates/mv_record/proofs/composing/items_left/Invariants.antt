use Rattle.std.proofs.Common.{◌≡◌, ◌++◌, drop}
use Rattle.mv_record.specs.Composing.{left_by}
use Rattle.mv_record.proofs.composing.items_left.Given as goal

abbrev pub invariant-loop-item : goal.invariant-loop-item
invariant-loop-item l = l.left ++ left_by l.next (drop l.item-index l.items) ≡ left_by l.next l.items
