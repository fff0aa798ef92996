use Rattle.mv_index.proofs.Choosing.{IsBest}
use Rattle.mv_index.proofs.index.Index.fewest.Given as goal

abbrev pub invariant-loop-test : goal.invariant-loop-test
invariant-loop-test l = IsBest l.self l.pred.table l.pred.tests l.test-index l.best
