use Rattle.std.proofs.Common.{◌≡◌, drop, map}
use Rattle.mv_ast.specs.Limits.{soonest, together, param_passes}
use Rattle.mv_limits.proofs.rows.in_params.Given as goal

abbrev pub invariant-loop-param : goal.invariant-loop-param
invariant-loop-param l = soonest l.best (together (map param_passes (drop l.param-index l.params))) ≡ soonest l.fn.best (together (map param_passes l.params))
