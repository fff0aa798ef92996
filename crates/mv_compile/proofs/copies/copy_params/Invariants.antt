use Rattle.std.proofs.Common.{◌≡◌, take}
use Rattle.mv_compile.proofs.copies.copy_params.Given as goal

abbrev pub invariant-loop-param : goal.invariant-loop-param
invariant-loop-param l = l.all ≡ take l.param-index l.params
