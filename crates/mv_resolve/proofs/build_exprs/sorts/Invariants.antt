use Rattle.std.proofs.Common.{◌≡◌, ◌++◌, drop}
use Rattle.std.specs.Option.{option_copied}
use Rattle.mv_resolve.specs.Building.{columns_in, sorts_of}
use Rattle.mv_resolve.proofs.build_exprs.sorts.Given as goal

abbrev pub invariant-loop-sort : goal.invariant-loop-sort
invariant-loop-sort l = l.all ++ sorts_of (columns_in (option_copied l.table)) (drop l.sort-index l.sorts) ≡ sorts_of (columns_in (option_copied l.table)) l.sorts
