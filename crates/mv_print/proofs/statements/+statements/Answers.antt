use Rattle.std.proofs.lemmas.Result.{on_ok_weaker}
use Rattle.mv_print.specs.Printing.{statement_pieces}
use Rattle.mv_print.proofs.Writing.{item_turn, items_end}
use Rattle.mv_print.proofs.Trees.{rows_written, select_written, branch_written}
use Rattle.mv_print.proofs.statements.+statements.Goals as goal

pub write_statement-returns-in_ok-write_statements-in-ForSelect : goal.write_statement-returns-in_ok-write_statements-in-ForSelect
write_statement-returns-in_ok-write_statements-in-ForSelect t c =
    let q = rw (c.as_slice-in-ForSelect.ensures, c.as_slice-in-ForSelect-2.ensures, c.as_slice-in-ForSelect-3.ensures) at c.in_ok-write_query-in-ForSelect.ensures in
    let b = rw c.as_slice-in-ForSelect-4.ensures at c.in_ok-write_statements-in-ForSelect.ensures in
    rw c.in-ForSelect.is
    (on_ok_weaker c.write_end_of.result
    (λ h. select_written c.in-ForSelect.token c.in-ForSelect.row c.in-ForSelect.distinct c.in-ForSelect.columns c.in-ForSelect.table c.in-ForSelect.conds c.in-ForSelect.sorts c.in-ForSelect.body
    c.args.text.now c.write_for.new.text c.write_query.new.text c.write_key.new.text c.write_statements.new.text c.write_end_of.new.text c.in_ok-write_for-in-ForSelect.ensures q c.in_ok-write_key-in-ForSelect.ensures b h)
    c.write_end_of.ensures)

pub write_statement-returns-in_ok-write_statements-in-ForRows : goal.write_statement-returns-in_ok-write_statements-in-ForRows
write_statement-returns-in_ok-write_statements-in-ForRows t c =
    let b = rw c.as_slice-in-ForRows.ensures at c.in_ok-write_statements-in-ForRows.ensures in
    rw c.in-ForRows.is
    (on_ok_weaker c.write_end_of-in-ForRows.result
    (λ h. rows_written c.in-ForRows.token c.in-ForRows.row c.in-ForRows.rows c.in-ForRows.body c.args.text.now c.write_for-in-ForRows.new.text c.write_variable.new.text c.write_key-in-ForRows.new.text
    c.write_statements-in-ForRows.new.text c.write_end_of-in-ForRows.new.text c.in_ok-write_for-in-ForRows.ensures c.in_ok-write_variable-in-ForRows.ensures c.in_ok-write_key-in-ForRows.ensures b h)
    c.write_end_of-in-ForRows.ensures)

pub write_statement-returns-in_ok-write_statements-in-Branch-2 : goal.write_statement-returns-in_ok-write_statements-in-Branch-2
write_statement-returns-in_ok-write_statements-in-Branch-2 t c =
    let y = rw c.as_slice-in-Branch.ensures at c.in_ok-write_statements-in-Branch.ensures in
    let l = rw c.as_slice-in-Branch-2.ensures at c.in_ok-write_else-in-Branch.ensures in
    let n = rw c.as_slice-in-Branch-3.ensures at c.in_ok-write_statements-in-Branch-2.ensures in
    rw c.in-Branch.is
    (on_ok_weaker c.write_end_of-in-Branch.result
    (λ h. branch_written c.in-Branch.token c.in-Branch.test c.in-Branch.yes c.in-Branch.no c.args.text.now c.write_key-in-Branch.new.text c.write_expr.new.text c.write_key-in-Branch-2.new.text
    c.write_statements-in-Branch.new.text c.write_else.new.text c.write_statements-in-Branch-2.new.text c.write_end_of-in-Branch.new.text c.in_ok-write_key-in-Branch.ensures c.in_ok-write_expr-in-Branch.ensures
    c.in_ok-write_key-in-Branch-2.ensures y l n h)
    c.write_end_of-in-Branch.ensures)

pub write_statements-loop-statement-preserved : goal.write_statements-loop-statement-preserved
write_statements-loop-statement-preserved t c =
    item_turn statement_pieces c.args.statements.now c.loop-statement.statement-index c.statement-item.result c.loop-statement.text c.write_statement.new.text _ c.loop-statement-test.true c.statement-item.is
    c.in_ok-write_statement.ensures c.loop-statement.invariant

pub write_statements-returns : goal.write_statements-returns
write_statements-returns t c = items_end statement_pieces c.args.statements.now c.loop-statement.statement-index c.loop-statement.text _ c.loop-statement-test.false c.loop-statement.invariant
