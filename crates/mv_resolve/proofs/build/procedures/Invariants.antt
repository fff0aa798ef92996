use Rattle.std.proofs.Common.{◌≡◌, ◌++◌, drop, map}
use Rattle.mv_resolve.specs.Building.{procedure_of}
use Rattle.mv_resolve.proofs.build.procedures.Given as goal

abbrev pub invariant-loop-definition : goal.invariant-loop-definition
invariant-loop-definition l = l.all ++ map (procedure_of l.tables) (drop l.definition-index l.definitions) ≡ map (procedure_of l.tables) l.definitions
