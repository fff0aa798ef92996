use Rattle.std.proofs.Common.{◌≡◌, ◌++◌, drop, map}
use Rattle.mv_eval.specs.declared.state.Content.TheVariants.{Scalar}
use Rattle.mv_eval.proofs.enter.add_declared.Given as goal

abbrev pub invariant-loop-value : goal.invariant-loop-value
invariant-loop-value l = l.all ++ map Scalar (drop l.value-index l.values) ≡ l.fn.all ++ map Scalar l.values
