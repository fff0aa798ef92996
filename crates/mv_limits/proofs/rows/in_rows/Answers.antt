use Rattle.mv_ast.specs.Limits.{row_passes}
use Rattle.mv_limits.proofs.Joining.{soonest_turn, soonest_end}
use Rattle.mv_limits.proofs.rows.in_rows.Goals as goal

pub loop-row-preserved : goal.loop-row-preserved
loop-row-preserved c =
    let e = rw c.as_slice.ensures at c.too_many-best.ensures in
    soonest_turn row_passes c.args.rows.now c.loop-row.row-index c.row-item.result c.loop-row.best c.too_many-best.result _ c.loop-row-test.true c.row-item.is e c.loop-row.invariant

pub returns : goal.returns
returns c = soonest_end row_passes c.args.rows.now c.loop-row.row-index c.loop-row.best _ c.loop-row-test.false c.loop-row.invariant
