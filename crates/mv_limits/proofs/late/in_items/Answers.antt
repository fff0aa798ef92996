use Rattle.mv_ast.specs.Limits.{passes_in}
use Rattle.mv_limits.proofs.Joining.{soonest_turn, soonest_end}
use Rattle.mv_limits.proofs.late.in_items.Goals as goal

pub loop-item-preserved : goal.loop-item-preserved
loop-item-preserved c =
    soonest_turn passes_in c.args.items.now c.loop-item.item-index c.item-item.result c.loop-item.best c.in_item-best.result _ c.loop-item-test.true c.item-item.is c.in_item-best.ensures c.loop-item.invariant

pub returns : goal.returns
returns c = soonest_end passes_in c.args.items.now c.loop-item.item-index c.loop-item.best _ c.loop-item-test.false c.loop-item.invariant
