use Rattle.std.proofs.Common.{◌≡◌, drop}
use Rattle.mv_graph.specs.Tests.{equalities, with_all_tested}
use Rattle.mv_compile.proofs.tested.add_equalities.Given as goal

abbrev pub invariant-loop-cond : goal.invariant-loop-cond
invariant-loop-cond l = with_all_tested l.all (equalities l.table (drop l.cond-index l.conds)) ≡ with_all_tested l.fn.all (equalities l.table l.conds)
