use Rattle.std.proofs.Common.{◌≡◌, ◌≤◌, length, drop}
use Rattle.mv_chain.specs.Undoing.{before}
use Rattle.mv_chain.proofs.undo.row_before.Given as goal

abbrev pub invariant-loop-at : goal.invariant-loop-at
invariant-loop-at l = (l.was ≡ before (drop l.at l.undos) l.fn.row) × (l.at ≤ length l.undos) × (l.first ≤ l.at)

abbrev pub decreases-loop-at : goal.decreases-loop-at
decreases-loop-at l = l.at
