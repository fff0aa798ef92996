use Rattle.mv_ast.specs.declared.tree.Stmt.TheOpen as layer
use Rattle.mv_ast.specs.declared.tree.Stmt.TheVariants.{rolls-Assign, rolls-Select, rolls-Total, rolls-ForSelect, rolls-ForRows, rolls-Insert, rolls-Update, rolls-Delete}
use Rattle.mv_names.proofs.Unrolled.{faults_is}
use Rattle.mv_names.proofs.bodies.+statements.Goals as goal

pub check_statement-returns-in-Assign-clause-faults : goal.check_statement-returns-in-Assign-clause-faults
check_statement-returns-in-Assign-clause-faults t c =
    let k = c.check_assign.ensures in
    rw (faults_is c.args.tables.now c.args.statement.now (layer.Assign c.in-Assign.token c.in-Assign.to c.in-Assign.right) _ c.in-Assign.is (rolls-Assign c.in-Assign.token c.in-Assign.to c.in-Assign.right)) k

pub check_statement-returns-in-Select-clause-faults : goal.check_statement-returns-in-Select-clause-faults
check_statement-returns-in-Select-clause-faults t c =
    let k = rw (c.as_slice.ensures, c.as_slice-in-Select.ensures, c.as_slice-in-Select-2.ensures, c.as_slice-in-Select-3.ensures, c.find-found.ensures) at c.check_select.ensures in
    rw (faults_is c.args.tables.now c.args.statement.now (layer.Select c.in-Select.token c.in-Select.columns c.in-Select.to c.in-Select.table c.in-Select.conds c.in-Select.sorts c.in-Select.offset) _ c.in-Select.is (rolls-Select c.in-Select.token c.in-Select.columns c.in-Select.to c.in-Select.table c.in-Select.conds c.in-Select.sorts c.in-Select.offset)) k

pub check_statement-returns-in-Total-clause-faults : goal.check_statement-returns-in-Total-clause-faults
check_statement-returns-in-Total-clause-faults t c =
    let k = rw (c.as_slice-in-Total.ensures, c.find.ensures) at c.check_total.ensures in
    rw (faults_is c.args.tables.now c.args.statement.now (layer.Total c.in-Total.token c.in-Total.agg c.in-Total.to c.in-Total.table c.in-Total.conds) _ c.in-Total.is (rolls-Total c.in-Total.token c.in-Total.agg c.in-Total.to c.in-Total.table c.in-Total.conds)) k

pub check_statement-returns-in-ForSelect-clause-faults : goal.check_statement-returns-in-ForSelect-clause-faults
check_statement-returns-in-ForSelect-clause-faults t c =
    let k = rw (c.as_slice-in-ForSelect.ensures, c.as_slice-in-ForSelect-2.ensures, c.as_slice-in-ForSelect-3.ensures, c.as_slice-in-ForSelect-4.ensures) at c.check_for_select.ensures.faults in
    rw (faults_is c.args.tables.now c.args.statement.now (layer.ForSelect c.in-ForSelect.token c.in-ForSelect.row c.in-ForSelect.distinct c.in-ForSelect.columns c.in-ForSelect.table c.in-ForSelect.conds c.in-ForSelect.sorts c.in-ForSelect.body) _ c.in-ForSelect.is (rolls-ForSelect c.in-ForSelect.token c.in-ForSelect.row c.in-ForSelect.distinct c.in-ForSelect.columns c.in-ForSelect.table c.in-ForSelect.conds c.in-ForSelect.sorts c.in-ForSelect.body)) k

pub check_statement-returns-in-ForRows-clause-faults : goal.check_statement-returns-in-ForRows-clause-faults
check_statement-returns-in-ForRows-clause-faults t c =
    let k = rw c.as_slice-in-ForRows.ensures at c.check_for_rows.ensures.faults in
    rw (faults_is c.args.tables.now c.args.statement.now (layer.ForRows c.in-ForRows.token c.in-ForRows.row c.in-ForRows.rows c.in-ForRows.body) _ c.in-ForRows.is (rolls-ForRows c.in-ForRows.token c.in-ForRows.row c.in-ForRows.rows c.in-ForRows.body)) k

pub check_statement-returns-in-Insert-clause-faults : goal.check_statement-returns-in-Insert-clause-faults
check_statement-returns-in-Insert-clause-faults t c =
    let k = rw (c.as_slice-in-Insert.ensures, c.find-in-Insert.ensures) at c.check_insert.ensures in
    rw (faults_is c.args.tables.now c.args.statement.now (layer.Insert c.in-Insert.token c.in-Insert.table c.in-Insert.values) _ c.in-Insert.is (rolls-Insert c.in-Insert.token c.in-Insert.table c.in-Insert.values)) k

pub check_statement-returns-in-Update-clause-faults : goal.check_statement-returns-in-Update-clause-faults
check_statement-returns-in-Update-clause-faults t c =
    let k = rw (c.as_slice-in-Update.ensures, c.as_slice-in-Update-2.ensures, c.find-in-Update.ensures) at c.check_update.ensures in
    rw (faults_is c.args.tables.now c.args.statement.now (layer.Update c.in-Update.token c.in-Update.table c.in-Update.items c.in-Update.conds) _ c.in-Update.is (rolls-Update c.in-Update.token c.in-Update.table c.in-Update.items c.in-Update.conds)) k

pub check_statement-returns-in-Delete-clause-faults : goal.check_statement-returns-in-Delete-clause-faults
check_statement-returns-in-Delete-clause-faults t c =
    let k = rw (c.as_slice-in-Delete.ensures, c.find-in-Delete.ensures) at c.check_delete.ensures in
    rw (faults_is c.args.tables.now c.args.statement.now (layer.Delete c.in-Delete.token c.in-Delete.table c.in-Delete.conds) _ c.in-Delete.is (rolls-Delete c.in-Delete.token c.in-Delete.table c.in-Delete.conds)) k
