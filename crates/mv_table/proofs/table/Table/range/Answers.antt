use Rattle.std.proofs.Common.{ap, subst, ◌∙◌}
use Rattle.std.specs.List.{filter}
use Rattle.mv_values.specs.Keys.{IsRising, stored}
use Rattle.mv_table.specs.Spans.{is_within}
use Rattle.mv_table.proofs.Storing.{stored_rising, stored_filter}
use Rattle.mv_table.proofs.table.Table.range.Goals as goal

pub returns-clause-rows : goal.returns-clause-rows
returns-clause-rows c =
    ap stored c.range.ensures.items
    ∙ (stored_filter (is_within c.args.span.now) c.self.inside.rows ∙ ap (filter (λ item. is_within c.args.span.now item.key)) c.self.view_is)

pub returns-clause-rising : goal.returns-clause-rising
returns-clause-rising c = subst IsRising c.self.view_is (stored_rising c.self.inside.rows c.range.ensures.rising)
