use Rattle.mv_recorder.proofs.Undoing.{set_twice}
use Rattle.mv_recorder.proofs.undo.put_one_back.Goals as goal

pub returns : goal.returns
returns c =
    rw (c.put_table.ensures, c.take_table-rows.ensures.left, c.in_ok-_before.ensures.rows, c.take_table-rows.ensures.rows)
    (set_twice c.args.tables.now c.args.was.table _)
