use Rattle.std.proofs.Common.{◌≡◌, ◌++◌, drop}
use Rattle.mv_names.proofs.tables.with_columns.Given as goal

abbrev pub invariant-loop-table : goal.invariant-loop-table
invariant-loop-table l = l.all ++ drop l.table-index l.tables ≡ l.tables
