use Rattle.std.proofs.Common.{◌≡◌, ◌++◌, drop, map}
use Rattle.mv_resolve.specs.Building.{described}
use Rattle.mv_resolve.proofs.build.described_columns.Given as goal

abbrev pub invariant-loop-column : goal.invariant-loop-column
invariant-loop-column l = l.all ++ map (described l.tables) (drop l.column-index l.columns) ≡ map (described l.tables) l.columns
