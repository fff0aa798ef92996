use Rattle.mv_ast.specs.Limits.{argument_passes}
use Rattle.mv_limits.proofs.Joining.{soonest_turn, soonest_end}
use Rattle.mv_limits.proofs.rows.in_arguments.Goals as goal

pub loop-argument-preserved : goal.loop-argument-preserved
loop-argument-preserved c =
    soonest_turn argument_passes c.args.arguments.now c.loop-argument.argument-index c.argument-item.result c.loop-argument.best c.in_argument-best.result _ c.loop-argument-test.true c.argument-item.is c.in_argument-best.ensures c.loop-argument.invariant

pub returns : goal.returns
returns c = soonest_end argument_passes c.args.arguments.now c.loop-argument.argument-index c.loop-argument.best _ c.loop-argument-test.false c.loop-argument.invariant
