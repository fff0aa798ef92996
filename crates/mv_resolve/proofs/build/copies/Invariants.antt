use Rattle.std.proofs.Common.{◌≡◌, ◌++◌, drop, map}
use Rattle.mv_resolve.specs.Building.{copy_of}
use Rattle.mv_resolve.proofs.build.copies.Given as goal

abbrev pub invariant-loop-definition : goal.invariant-loop-definition
invariant-loop-definition l = l.all ++ map (copy_of l.tables) (drop l.definition-index l.definitions) ≡ map (copy_of l.tables) l.definitions
