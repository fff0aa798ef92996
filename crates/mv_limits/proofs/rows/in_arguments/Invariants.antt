use Rattle.std.proofs.Common.{◌≡◌, drop, map}
use Rattle.mv_ast.specs.Limits.{soonest, together, argument_passes}
use Rattle.mv_limits.proofs.rows.in_arguments.Given as goal

abbrev pub invariant-loop-argument : goal.invariant-loop-argument
invariant-loop-argument l = soonest l.best (together (map argument_passes (drop l.argument-index l.arguments))) ≡ soonest l.fn.best (together (map argument_passes l.arguments))
