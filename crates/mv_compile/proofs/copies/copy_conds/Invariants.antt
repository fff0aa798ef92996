use Rattle.std.proofs.Common.{◌≡◌, take}
use Rattle.mv_compile.proofs.copies.copy_conds.Given as goal

abbrev pub invariant-loop-cond : goal.invariant-loop-cond
invariant-loop-cond l = l.all ≡ take l.cond-index l.conds
