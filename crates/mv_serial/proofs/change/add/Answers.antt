use Rattle.std.proofs.Common.{Some}
use Rattle.mv_serial.proofs.Changing.{put_back, taken_back}
use Rattle.mv_serial.proofs.change.add.Goals as goal

pub returns-clause-tables : goal.returns-clause-tables
returns-clause-tables c =
    rw (c.put_table.ensures, c.take_table-rows.ensures.left, c.in_ok-row.ensures.ok, c.in_ok-copy.ensures, c.take_table-rows.ensures.rows)
    (put_back c.args.tables.now c.args.table _)

pub returns-clause-back : goal.returns-clause-back
returns-clause-back c =
    let rising = rw c.take_table-rows.ensures.rows at c.len-len.ensures.rising in
    let was = rw (c.in_ok-copy.ensures, c.take_table-rows.ensures.rows) at c.in_ok-row.ensures.was in
    taken_back c.args.table c.args.item.key (Some c.args.item.row) c.in_ok-row.row c.args.tables.now c.put_table.new.tables rising (returns-clause-tables c) was
