use Rattle.mv_resolve.proofs.Lists.{one_on}
use Rattle.mv_resolve.proofs.build.rows_of_tables.Goals as goal

pub loop-table-preserved : goal.loop-table-preserved
loop-table-preserved c = one_on _ c.args.tables.now c.loop-table.table-index c.table-item.result _ _ _ c.table-item.is c.loop-table-test.true (rw c.as_slice.ensures at c.in_ok-rows.ensures) c.in_ok-push.ensures.ok c.loop-table.invariant
