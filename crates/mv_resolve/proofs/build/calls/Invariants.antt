use Rattle.std.proofs.Common.{◌≡◌, ◌++◌, drop, map}
use Rattle.mv_resolve.specs.Building.{call_of}
use Rattle.mv_resolve.proofs.build.calls.Given as goal

abbrev pub invariant-loop-definition : goal.invariant-loop-definition
invariant-loop-definition l = l.all ++ map (call_of l.procedures) (drop l.definition-index l.definitions) ≡ map (call_of l.procedures) l.definitions
