use Rattle.std.proofs.Common.{ap, ◌∙◌}
use Rattle.std.specs.Prelude.{◌==◌}
use Rattle.std.specs.List.{filter}
use Rattle.mv_history.specs.declared.change.Change.{Change}
use Rattle.mv_changes.proofs.Cutting.{cuts_rise, cut_out}
use Rattle.mv_changes.proofs.changes.Changes.of_table.Goals as goal

pub part-requires-clause-order : goal.part-requires-clause-order
part-requires-clause-order c = cuts_rise c.args.table c.as_slice-items.result.now c.count_below-from.result c.count_below-to.result c.count_below-from.ensures.within c.count_below-from.ensures.cut c.count_below-to.ensures.cut

pub returns : goal.returns
returns c =
    c.part.ensures
    ∙ (cut_out c.args.table c.as_slice-items.result.now c.count_below-from.result c.count_below-to.result c.count_below-from.ensures.within c.count_below-to.ensures.within c.count_below-from.ensures.cut c.count_below-to.ensures.cut
    ∙ ap (filter (λ (x : Change). x.table == c.args.table)) (c.as_slice-items.ensures ∙ (c.deref.ensures ∙ c.self.view_is)))
