use Rattle.std.proofs.Common.{◌≡◌, drop}
use Rattle.mv_graph.specs.Tests.{wheres_of, equalities_in, with_all_tested}
use Rattle.mv_compile.proofs.tested.+tested.Given as goal

abbrev pub invariant-add_tested-loop-statement : goal.invariant-add_tested-loop-statement
invariant-add_tested-loop-statement l = with_all_tested l.all (equalities_in (wheres_of (drop l.statement-index l.statements))) ≡ with_all_tested l.fn.all (equalities_in (wheres_of l.statements))
