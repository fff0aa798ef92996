use Rattle.std.proofs.Common.{◌≡◌, ◌++◌, map}
use Rattle.mv_store.specs.Stored.{table_at}
use Rattle.mv_store.proofs.close.close_all.Given as goal

abbrev pub invariant-loop-table : goal.invariant-loop-table
invariant-loop-table l = l.database ++ map (table_at l.n) l.table-iterator.rest.items ≡ map (table_at l.n) l.fn.tables.items
