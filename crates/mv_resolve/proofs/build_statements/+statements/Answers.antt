use Rattle.mv_ast.specs.declared.tree.Stmt.TheOpen as layer
use Rattle.mv_ast.specs.declared.tree.Stmt.TheVariants.{rolls-Assign, rolls-Select, rolls-Total, rolls-ForSelect, rolls-ForRows, rolls-Insert, rolls-Update, rolls-Delete, rolls-Print, rolls-Rollback}
use Rattle.mv_resolve.proofs.Unrolled.{built_is, if_ok, none_more}
use Rattle.mv_resolve.proofs.build_statements.+statements.Goals as goal

pub statement-returns-in-Assign-clause-built : goal.statement-returns-in-Assign-clause-built
statement-returns-in-Assign-clause-built t c =
    let k = c.assign.ensures in
    rw (built_is c.args.tables.now c.args.s.now (layer.Assign c.in-Assign.token c.in-Assign.to c.in-Assign.right) _ c.in-Assign.is (rolls-Assign c.in-Assign.token c.in-Assign.to c.in-Assign.right)) k

pub statement-returns-in-Assign-clause-next : goal.statement-returns-in-Assign-clause-next
statement-returns-in-Assign-clause-next t c = rw (built_is c.args.tables.now c.args.s.now (layer.Assign c.in-Assign.token c.in-Assign.to c.in-Assign.right) _ c.in-Assign.is (rolls-Assign c.in-Assign.token c.in-Assign.to c.in-Assign.right)) (if_ok c.assign.result (none_more c.args.next.now))

pub statement-returns-in-Select-clause-built : goal.statement-returns-in-Select-clause-built
statement-returns-in-Select-clause-built t c =
    let k = rw (c.as_slice.ensures, c.as_slice-in-Select.ensures, c.as_slice-in-Select-2.ensures, c.as_slice-in-Select-3.ensures) at c.select.ensures in
    rw (built_is c.args.tables.now c.args.s.now (layer.Select c.in-Select.token c.in-Select.columns c.in-Select.to c.in-Select.table c.in-Select.conds c.in-Select.sorts c.in-Select.offset) _ c.in-Select.is (rolls-Select c.in-Select.token c.in-Select.columns c.in-Select.to c.in-Select.table c.in-Select.conds c.in-Select.sorts c.in-Select.offset)) k

pub statement-returns-in-Select-clause-next : goal.statement-returns-in-Select-clause-next
statement-returns-in-Select-clause-next t c = rw (built_is c.args.tables.now c.args.s.now (layer.Select c.in-Select.token c.in-Select.columns c.in-Select.to c.in-Select.table c.in-Select.conds c.in-Select.sorts c.in-Select.offset) _ c.in-Select.is (rolls-Select c.in-Select.token c.in-Select.columns c.in-Select.to c.in-Select.table c.in-Select.conds c.in-Select.sorts c.in-Select.offset)) (if_ok c.select.result (none_more c.args.next.now))

pub statement-returns-in-Total-clause-built : goal.statement-returns-in-Total-clause-built
statement-returns-in-Total-clause-built t c =
    let k = rw (c.as_slice-in-Total.ensures) at c.total.ensures in
    rw (built_is c.args.tables.now c.args.s.now (layer.Total c.in-Total.token c.in-Total.agg c.in-Total.to c.in-Total.table c.in-Total.conds) _ c.in-Total.is (rolls-Total c.in-Total.token c.in-Total.agg c.in-Total.to c.in-Total.table c.in-Total.conds)) k

pub statement-returns-in-Total-clause-next : goal.statement-returns-in-Total-clause-next
statement-returns-in-Total-clause-next t c = rw (built_is c.args.tables.now c.args.s.now (layer.Total c.in-Total.token c.in-Total.agg c.in-Total.to c.in-Total.table c.in-Total.conds) _ c.in-Total.is (rolls-Total c.in-Total.token c.in-Total.agg c.in-Total.to c.in-Total.table c.in-Total.conds)) (if_ok c.total.result (none_more c.args.next.now))

pub statement-returns-in-ForSelect-clause-built : goal.statement-returns-in-ForSelect-clause-built
statement-returns-in-ForSelect-clause-built t c =
    let k = rw (c.as_slice-in-ForSelect.ensures, c.as_slice-in-ForSelect-2.ensures, c.as_slice-in-ForSelect-3.ensures, c.as_slice-body.ensures) at c.over_select.ensures.built in
    rw (built_is c.args.tables.now c.args.s.now (layer.ForSelect c.in-ForSelect.token c.in-ForSelect.row c.in-ForSelect.distinct c.in-ForSelect.columns c.in-ForSelect.table c.in-ForSelect.conds c.in-ForSelect.sorts c.in-ForSelect.body) _ c.in-ForSelect.is (rolls-ForSelect c.in-ForSelect.token c.in-ForSelect.row c.in-ForSelect.distinct c.in-ForSelect.columns c.in-ForSelect.table c.in-ForSelect.conds c.in-ForSelect.sorts c.in-ForSelect.body)) k

pub statement-returns-in-ForSelect-clause-next : goal.statement-returns-in-ForSelect-clause-next
statement-returns-in-ForSelect-clause-next t c =
    let k = rw c.as_slice-body.ensures at c.over_select.ensures.next in
    rw (built_is c.args.tables.now c.args.s.now (layer.ForSelect c.in-ForSelect.token c.in-ForSelect.row c.in-ForSelect.distinct c.in-ForSelect.columns c.in-ForSelect.table c.in-ForSelect.conds c.in-ForSelect.sorts c.in-ForSelect.body) _ c.in-ForSelect.is (rolls-ForSelect c.in-ForSelect.token c.in-ForSelect.row c.in-ForSelect.distinct c.in-ForSelect.columns c.in-ForSelect.table c.in-ForSelect.conds c.in-ForSelect.sorts c.in-ForSelect.body)) k

pub statement-returns-in-ForRows-clause-built : goal.statement-returns-in-ForRows-clause-built
statement-returns-in-ForRows-clause-built t c =
    let k = rw c.as_slice-in-ForRows.ensures at c.over_rows.ensures.built in
    rw (built_is c.args.tables.now c.args.s.now (layer.ForRows c.in-ForRows.token c.in-ForRows.row c.in-ForRows.rows c.in-ForRows.body) _ c.in-ForRows.is (rolls-ForRows c.in-ForRows.token c.in-ForRows.row c.in-ForRows.rows c.in-ForRows.body)) k

pub statement-returns-in-ForRows-clause-next : goal.statement-returns-in-ForRows-clause-next
statement-returns-in-ForRows-clause-next t c =
    let k = rw c.as_slice-in-ForRows.ensures at c.over_rows.ensures.next in
    rw (built_is c.args.tables.now c.args.s.now (layer.ForRows c.in-ForRows.token c.in-ForRows.row c.in-ForRows.rows c.in-ForRows.body) _ c.in-ForRows.is (rolls-ForRows c.in-ForRows.token c.in-ForRows.row c.in-ForRows.rows c.in-ForRows.body)) k

pub statement-returns-in-Insert-clause-built : goal.statement-returns-in-Insert-clause-built
statement-returns-in-Insert-clause-built t c =
    let k = rw (c.as_slice-in-Insert.ensures) at c.insert.ensures in
    rw (built_is c.args.tables.now c.args.s.now (layer.Insert c.in-Insert.token c.in-Insert.table c.in-Insert.values) _ c.in-Insert.is (rolls-Insert c.in-Insert.token c.in-Insert.table c.in-Insert.values)) k

pub statement-returns-in-Insert-clause-next : goal.statement-returns-in-Insert-clause-next
statement-returns-in-Insert-clause-next t c = rw (built_is c.args.tables.now c.args.s.now (layer.Insert c.in-Insert.token c.in-Insert.table c.in-Insert.values) _ c.in-Insert.is (rolls-Insert c.in-Insert.token c.in-Insert.table c.in-Insert.values)) (if_ok c.insert.result (none_more c.args.next.now))

pub statement-returns-in-Update-clause-built : goal.statement-returns-in-Update-clause-built
statement-returns-in-Update-clause-built t c =
    let k = rw (c.as_slice-in-Update.ensures, c.as_slice-in-Update-2.ensures) at c.update.ensures in
    rw (built_is c.args.tables.now c.args.s.now (layer.Update c.in-Update.token c.in-Update.table c.in-Update.items c.in-Update.conds) _ c.in-Update.is (rolls-Update c.in-Update.token c.in-Update.table c.in-Update.items c.in-Update.conds)) k

pub statement-returns-in-Update-clause-next : goal.statement-returns-in-Update-clause-next
statement-returns-in-Update-clause-next t c = rw (built_is c.args.tables.now c.args.s.now (layer.Update c.in-Update.token c.in-Update.table c.in-Update.items c.in-Update.conds) _ c.in-Update.is (rolls-Update c.in-Update.token c.in-Update.table c.in-Update.items c.in-Update.conds)) (if_ok c.update.result (none_more c.args.next.now))

pub statement-returns-in-Delete-clause-built : goal.statement-returns-in-Delete-clause-built
statement-returns-in-Delete-clause-built t c =
    let k = rw (c.as_slice-in-Delete.ensures) at c.delete.ensures in
    rw (built_is c.args.tables.now c.args.s.now (layer.Delete c.in-Delete.token c.in-Delete.table c.in-Delete.conds) _ c.in-Delete.is (rolls-Delete c.in-Delete.token c.in-Delete.table c.in-Delete.conds)) k

pub statement-returns-in-Delete-clause-next : goal.statement-returns-in-Delete-clause-next
statement-returns-in-Delete-clause-next t c = rw (built_is c.args.tables.now c.args.s.now (layer.Delete c.in-Delete.token c.in-Delete.table c.in-Delete.conds) _ c.in-Delete.is (rolls-Delete c.in-Delete.token c.in-Delete.table c.in-Delete.conds)) (if_ok c.delete.result (none_more c.args.next.now))

pub statement-returns-in-Print-clause-built : goal.statement-returns-in-Print-clause-built
statement-returns-in-Print-clause-built t c =
    let k = rw (c.as_slice-in-Print.ensures) at c.print.ensures in
    rw (built_is c.args.tables.now c.args.s.now (layer.Print c.in-Print.token c.in-Print.values) _ c.in-Print.is (rolls-Print c.in-Print.token c.in-Print.values)) k

pub statement-returns-in-Print-clause-next : goal.statement-returns-in-Print-clause-next
statement-returns-in-Print-clause-next t c = rw (built_is c.args.tables.now c.args.s.now (layer.Print c.in-Print.token c.in-Print.values) _ c.in-Print.is (rolls-Print c.in-Print.token c.in-Print.values)) (if_ok c.print.result (none_more c.args.next.now))

pub statement-returns-in-Rollback-clause-built : goal.statement-returns-in-Rollback-clause-built
statement-returns-in-Rollback-clause-built t c =
    let k = c.rollback.ensures in
    rw (built_is c.args.tables.now c.args.s.now (layer.Rollback c.in-Rollback.token c.in-Rollback.reason) _ c.in-Rollback.is (rolls-Rollback c.in-Rollback.token c.in-Rollback.reason)) k

pub statement-returns-in-Rollback-clause-next : goal.statement-returns-in-Rollback-clause-next
statement-returns-in-Rollback-clause-next t c = rw (built_is c.args.tables.now c.args.s.now (layer.Rollback c.in-Rollback.token c.in-Rollback.reason) _ c.in-Rollback.is (rolls-Rollback c.in-Rollback.token c.in-Rollback.reason)) (if_ok c.rollback.result (none_more c.args.next.now))
