use Rattle.std.proofs.Common.{◌≡◌, ◌++◌, drop, map}
use Rattle.mv_ast.specs.declared.tree.TableDef.{TableDef}
use Rattle.mv_resolve.specs.Building.{rows_of}
use Rattle.mv_resolve.proofs.build.rows_of_tables.Given as goal

abbrev pub invariant-loop-table : goal.invariant-loop-table
invariant-loop-table l = l.all ++ map (λ (t : TableDef). rows_of t.rows) (drop l.table-index l.tables) ≡ map (λ (t : TableDef). rows_of t.rows) l.tables
