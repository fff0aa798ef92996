use Rattle.std.proofs.Common.{◌≡◌, ◌++◌, drop, length}
use Rattle.mv_table.proofs.databases.database_of.Given as goal

abbrev pub invariant-loop-at : goal.invariant-loop-at
invariant-loop-at l = record {
  len : length l.tables ≡ length l.fn.tables;
  moved : l.database ++ drop l.at l.tables ≡ l.fn.tables;
}
