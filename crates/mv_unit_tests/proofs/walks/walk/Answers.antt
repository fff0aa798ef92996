use Rattle.std.proofs.Common.{◌≡◌, true, refl, rules}
use Rattle.mv_graph.specs.Nodes.{meaning_of}
use Rattle.mv_unit_tests.proofs.Walking.{has_all}
use Rattle.mv_unit_tests.proofs.walks.walk.Goals as goal

pub returns-clause-records : goal.returns-clause-records
returns-clause-records g c =
    let ended : c.loop-alloc.task.ended ≡ true = search rules in
    has_all c.calls_end_exactly.ensures c.args.graph.now c.args.call.now (g.V.View.sight c.args.view.now).database c.loop-alloc.task (meaning_of c.args.graph.now c.args.call.now (g.V.View.sight c.args.view.now).database).records c.requires.database.rising c.loop-alloc.invariant.on refl ended
