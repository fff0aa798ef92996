use Rattle.mv_chain.proofs.Columns.{IsAdded}
use Rattle.mv_chain.proofs.commit.add_items.Given as goal

abbrev pub invariant-loop-at : goal.invariant-loop-at
invariant-loop-at l = IsAdded l.fn.items l.fn.more l.at l.more l.items
