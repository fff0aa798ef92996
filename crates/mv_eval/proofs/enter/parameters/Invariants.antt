use Rattle.std.proofs.Common.{◌≡◌, ◌++◌, drop, map}
use Rattle.mv_eval.specs.TableAfter.{argument_held}
use Rattle.mv_eval.proofs.enter.parameters.Given as goal

abbrev pub invariant-loop-argument : goal.invariant-loop-argument
invariant-loop-argument l = l.all ++ map argument_held (drop l.argument-index l.arguments) ≡ map argument_held l.arguments
