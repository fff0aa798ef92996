use Rattle.std.proofs.Common.{◌≡◌, ◌++◌, map, drop}
use Rattle.mv_recorded.proofs.Setting.{value_in}
use Rattle.mv_recorder.proofs.changes.assigns.Given as goal

abbrev pub invariant-loop-item : goal.invariant-loop-item
invariant-loop-item l = l.all ++ map (value_in l.row) (drop l.item-index l.items) ≡ map (value_in l.row) l.items
