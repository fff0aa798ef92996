use Rattle.std.proofs.Common.{◌∙◌}
use Rattle.mv_compile.proofs.Opening.{graphs_on}
use Rattle.mv_unit_tests.proofs.records.leaves.Goals as goal

pub check_only-requires-clause-databases : goal.check_only-requires-clause-databases
check_only-requires-clause-databases c = graphs_on c.args.program.now c.as_slice.result.now (c.as_slice.ensures ∙ c.in_ok-graphs.ensures.graphs) c.requires.opening

pub compile-requires : goal.compile-requires
compile-requires c = c.requires.text
