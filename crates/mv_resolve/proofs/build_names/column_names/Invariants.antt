use Rattle.std.proofs.Common.{◌≡◌, ◌++◌, drop, map}
use Rattle.mv_resolve.specs.Building.{column_name}
use Rattle.mv_resolve.proofs.build_names.column_names.Given as goal

abbrev pub invariant-loop-column : goal.invariant-loop-column
invariant-loop-column l = l.all ++ map column_name (drop l.column-index l.columns) ≡ map column_name l.columns
