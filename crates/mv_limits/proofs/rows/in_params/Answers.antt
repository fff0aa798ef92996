use Rattle.mv_ast.specs.Limits.{param_passes}
use Rattle.mv_limits.proofs.Joining.{soonest_turn, soonest_end}
use Rattle.mv_limits.proofs.rows.in_params.Goals as goal

pub loop-param-preserved : goal.loop-param-preserved
loop-param-preserved c =
    soonest_turn param_passes c.args.params.now c.loop-param.param-index c.param-item.result c.loop-param.best c.in_param-best.result _ c.loop-param-test.true c.param-item.is c.in_param-best.ensures c.loop-param.invariant

pub returns : goal.returns
returns c = soonest_end param_passes c.args.params.now c.loop-param.param-index c.loop-param.best _ c.loop-param-test.false c.loop-param.invariant
