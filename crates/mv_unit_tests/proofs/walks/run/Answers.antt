use Rattle.std.proofs.Common.{ap, ◌∙◌}
use Rattle.mv_view.specs.Viewing.{Sight}
use Rattle.mv_graph.specs.Nodes.{meaning_of}
use Rattle.mv_unit_tests.proofs.walks.run.Goals as goal

pub returns-clause-call : goal.returns-clause-call
returns-clause-call c = c.finish.ensures.call c.args.call.now c.in_ok-task.ensures.call

pub returns-clause-records : goal.returns-clause-records
returns-clause-records c =
    c.in_ok-finish.ensures.records c.args.call.now c.in_ok-task.ensures.call
    ∙ ap (λ (sight : Sight). (meaning_of c.args.graph.now c.args.call.now sight.database).records) c.new-view.ensures
