use Rattle.std.proofs.Common.{◌≡◌, ◌++◌, drop, map}
use Rattle.mv_resolve.specs.Building.{table_of}
use Rattle.mv_resolve.proofs.build.table_infos.Given as goal

abbrev pub invariant-loop-table : goal.invariant-loop-table
invariant-loop-table l = l.all ++ map (table_of l.index) (drop l.table-index l.tables) ≡ map (table_of l.index) l.tables
