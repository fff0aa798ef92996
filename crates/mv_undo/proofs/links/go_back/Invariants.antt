use Rattle.mv_undo.proofs.Shrinking.{AreBack}
use Rattle.mv_undo.proofs.links.go_back.Given as goal

abbrev pub invariant-loop-index : goal.invariant-loop-index
invariant-loop-index l = AreBack l.items l.number l.fn.order.items l.order.items l.index
