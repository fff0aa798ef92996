use Rattle.mv_index.specs.Indexing.{Keeps}
use Rattle.mv_unit_tests.proofs.indexes.add_others.Given as goal

abbrev pub invariant-loop : goal.invariant-loop
invariant-loop l = Keeps l.fn.index l.index
