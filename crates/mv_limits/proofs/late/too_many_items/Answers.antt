use Rattle.std.proofs.Common.{sym, ◌∙◌}
use Rattle.mv_limits.proofs.Counting.{items_over, items_end}
use Rattle.mv_limits.proofs.late.too_many_items.Goals as goal

pub returns-then-left-eq0 : goal.returns-then-left-eq0
returns-then-left-eq0 c =
    items_over c.args.which c.args.items.now c.loop-item.item-index c.loop-item.left c.item-item.result c.args.best c.sooner.result _ c.loop-item-test.true c.item-item.is
    (sym c.is_counted.ensures ∙ c.if-not-is_counted.false) c.if-left-eq0.true c.loop-item.invariant c.sooner.ensures

pub returns : goal.returns
returns c = items_end c.args.which c.args.items.now c.loop-item.item-index c.loop-item.left c.args.best _ c.loop-item-test.false c.loop-item.invariant
