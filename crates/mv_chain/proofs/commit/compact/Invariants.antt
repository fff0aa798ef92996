use Rattle.mv_chain.specs.Keeping.{IsCompacted}
use Rattle.mv_chain.proofs.commit.compact.Given as goal

abbrev pub invariant-loop-at : goal.invariant-loop-at
invariant-loop-at l = IsCompacted l.fn.items l.kept l.at l.items
