use Rattle.mv_serial.proofs.Changing.{put_back, taken_back}
use Rattle.mv_serial.proofs.change.make.Goals as goal

pub returns-clause-tables : goal.returns-clause-tables
returns-clause-tables c =
    rw (c.put_table.ensures, c.take_table-rows.ensures.left, c.in_ok-row.ensures.rows, c.take_table-rows.ensures.rows)
    (put_back c.args.tables.now c.args.change.table _)

pub returns-clause-back : goal.returns-clause-back
returns-clause-back c =
    let rising = rw c.take_table-rows.ensures.rows at c.set_row.ensures.rising in
    let was = rw c.take_table-rows.ensures.rows at c.in_ok-row.ensures.was in
    taken_back c.args.change.table c.args.change.key c.args.change.row _ c.args.tables.now c.put_table.new.tables rising (returns-clause-tables c) was
