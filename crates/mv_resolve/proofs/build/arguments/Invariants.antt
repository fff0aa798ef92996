use Rattle.std.proofs.Common.{◌≡◌, ◌++◌, drop, map}
use Rattle.mv_resolve.specs.Building.{argument_of}
use Rattle.mv_resolve.proofs.build.arguments.Given as goal

abbrev pub invariant-loop-one : goal.invariant-loop-one
invariant-loop-one l = l.all ++ map argument_of (drop l.one-index l.arguments) ≡ map argument_of l.arguments
