use Rattle.std.proofs.Common.{◌++◌, length}
use Rattle.mv_undo.specs.Owning.{earlier, AreSought}
use Rattle.mv_undo.proofs.undo.Undo.keys.Given as goal

abbrev pub invariant-loop-key : goal.invariant-loop-key
invariant-loop-key l = AreSought l.pred (earlier l.number l.self) (l.keys ++ l.sought)

abbrev pub decreases-loop-key : goal.decreases-loop-key
decreases-loop-key l = length l.sought
