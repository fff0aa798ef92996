use Rattle.mv_chain.proofs.Columns.{IsExchanged}
use Rattle.mv_chain.proofs.commit.set_columns.Given as goal

abbrev pub invariant-loop-at : goal.invariant-loop-at
invariant-loop-at l = IsExchanged l.fn.items l.fn.row l.at l.items l.row
