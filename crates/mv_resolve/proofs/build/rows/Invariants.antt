use Rattle.std.proofs.Common.{◌≡◌, ◌++◌, drop}
use Rattle.mv_resolve.specs.Building.{rows_of}
use Rattle.mv_resolve.proofs.build.rows.Given as goal

abbrev pub invariant-loop-one : goal.invariant-loop-one
invariant-loop-one l = l.all ++ rows_of (drop l.one-index l.literals) ≡ rows_of l.literals
