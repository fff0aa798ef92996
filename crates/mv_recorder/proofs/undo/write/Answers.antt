use Rattle.mv_recorder.proofs.Undoing.{set_twice, taken_back}
use Rattle.mv_recorder.proofs.undo.write.Goals as goal

pub returns-clause-tables : goal.returns-clause-tables
returns-clause-tables c =
    rw (c.put_table.ensures, c.take_table-rows.ensures.left, c.in_ok-row.ensures.rows, c.in_ok-copy.ensures, c.in_ok-patched.ensures, c.get.ensures, c.take_table-rows.ensures.rows)
    (set_twice c.args.tables.now c.args.write.now.table _)

pub returns-clause-back : goal.returns-clause-back
returns-clause-back c =
    let rising = rw c.take_table-rows.ensures.rows at c.len-len.ensures.rising in
    let was = rw (c.in_ok-copy.ensures, c.take_table-rows.ensures.rows) at c.in_ok-row.ensures.was in
    rw c.in_ok-key.ensures
    (taken_back c.args.write.now.table c.args.write.now.key _ c.in_ok-row.row c.args.tables.now c.put_table.new.tables rising (returns-clause-tables c) was)
