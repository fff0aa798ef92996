use Rattle.std.proofs.Common.{◌≡◌, ◌++◌, drop}
use Rattle.mv_resolve.specs.Building.{numbers_of}
use Rattle.mv_resolve.proofs.build_names.variables.Given as goal

abbrev pub invariant-loop-name : goal.invariant-loop-name
invariant-loop-name l = l.all ++ numbers_of l.slots (drop l.name-index l.names) ≡ numbers_of l.slots l.names
