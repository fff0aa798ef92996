use Rattle.std.proofs.Common.{rules, refl, sym, ap, ◌∙◌}
use Rattle.mv_view.specs.Viewing.{Sight}
use Rattle.mv_graph.specs.Nodes.{meaning_of}
use Rattle.mv_unit_tests.proofs.walks.run_and_walk.Goals as goal

pub walk-requires : goal.walk-requires
walk-requires c = λ k. (
  (refl, tt),
  (
    search rules,
    (
      search rules,
      (
        (c.begin_repair.ensures.begins c.args.graph.now c.args.call.now c.new-view.result.database c.in_ok-task.ensures.call),
        (
          (c.begin_repair.ensures.past
              ∙ (c.in_ok-task.ensures.records
              ∙ ap (λ (sight : Sight). (meaning_of c.args.graph.now c.args.call.now sight.database).records) (sym c.new-view.ensures))),
          search rules,
        ),
      ),
    ),
  ),
)
