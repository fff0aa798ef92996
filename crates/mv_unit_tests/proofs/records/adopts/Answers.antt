use Rattle.mv_unit_tests.proofs.records.adopts.Goals as goal

pub adopt_all-requires-clause-running : goal.adopt_all-requires-clause-running
adopt_all-requires-clause-running c = (c.args.call.now, c.begin_repair.ensures.call c.args.graph.now c.args.call.now c.requires.call)
