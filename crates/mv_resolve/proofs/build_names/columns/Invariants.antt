use Rattle.std.proofs.Common.{◌≡◌, ◌++◌, drop, map}
use Rattle.std.specs.Option.{option_copied}
use Rattle.mv_resolve.specs.Building.{columns_in, column_number}
use Rattle.mv_resolve.proofs.build_names.columns.Given as goal

abbrev pub invariant-loop-name : goal.invariant-loop-name
invariant-loop-name l = l.all ++ map (column_number (columns_in (option_copied l.table))) (drop l.name-index l.names) ≡ map (column_number (columns_in (option_copied l.table))) l.names
