use Rattle.std.proofs.Common.{ap, ◌∙◌, subst}
use Rattle.std.specs.List.{filter}
use Rattle.mv_values.specs.Keys.{IsRising, stored}
use Rattle.mv_table.specs.Spans.{is_within}
use Rattle.mv_table.proofs.Storing.{stored_rising, stored_filter}
use Rattle.mv_table.proofs.table.Table.part.Goals as goal

pub loop-key-init : goal.loop-key-init
loop-key-init c =
    rw c.new-part.ensures.items
    (ap stored (c.into_iter-key-iterator.ensures.into_iter_gives ∙ c.range-key-items.ensures.items)
    ∙ (stored_filter (is_within c.args.span.now) c.self.inside.rows ∙ ap (filter (λ item. is_within c.args.span.now item.key)) c.self.view_is))

pub returns-in_err-push-clause-rising : goal.returns-in_err-push-clause-rising
returns-in_err-push-clause-rising c = subst IsRising c.self.view_is (stored_rising c.self.inside.rows c.range-key-items.ensures.rising)

pub returns-clause-rising : goal.returns-clause-rising
returns-clause-rising c = subst IsRising c.self.view_is (stored_rising c.self.inside.rows c.range-key-items.ensures.rising)
