use Rattle.std.proofs.Common.{rules, refl}
use Rattle.mv_unit_tests.proofs.Walking.{within}
use Rattle.mv_unit_tests.proofs.walks.step.Goals as goal

pub adopt_next-requires-clause-within : goal.adopt_next-requires-clause-within
adopt_next-requires-clause-within g c =
    within c.calls_end_exactly.ensures c.args.graph.now c.args.call.now (g.V.View.sight c.args.view.now).database c.args.task.now c.args.task.now.log.past c.requires.database.rising c.requires.on c.requires.past c.requires.live

pub next-requires : goal.next-requires
next-requires g c = λ k. ((refl, tt), (search rules, (search rules, ((c.args.call.now, c.requires.on)))))
