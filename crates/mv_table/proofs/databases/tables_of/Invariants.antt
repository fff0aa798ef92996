use Rattle.std.proofs.Common.{◌≡◌, ◌++◌, drop}
use Rattle.mv_table.proofs.databases.tables_of.Given as goal

abbrev pub invariant-loop-rows : goal.invariant-loop-rows
invariant-loop-rows l = l.tables ++ drop l.rows-index l.rows-items ≡ l.database
