use Rattle.std.proofs.Common.{◌≡◌, ◌++◌, drop}
use Rattle.mv_resolve.specs.Building.{names_of}
use Rattle.mv_resolve.proofs.build_names.texts.Given as goal

abbrev pub invariant-loop-name : goal.invariant-loop-name
invariant-loop-name l = l.all ++ names_of (drop l.name-index l.names) ≡ names_of l.names
