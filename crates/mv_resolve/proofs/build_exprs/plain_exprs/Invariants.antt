use Rattle.std.proofs.Common.{◌≡◌, ◌++◌, drop}
use Rattle.mv_resolve.specs.Building.{plains}
use Rattle.mv_resolve.proofs.build_exprs.plain_exprs.Given as goal

abbrev pub invariant-loop-e : goal.invariant-loop-e
invariant-loop-e l = l.all ++ plains l.slots (drop l.e-index l.exprs) ≡ plains l.slots l.exprs
