use Rattle.mv_serial.proofs.Changing.{keeps}
use Rattle.mv_serial.proofs.Renewing.{puts, puts_row, puts_none}
use Rattle.mv_serial.proofs.inserting.put_new.Goals as goal

pub returns-clause-rows : goal.returns-clause-rows
returns-clause-rows c =
    puts_row c.in_ok-back.back.row c.args.item c.args.tables.now c.add.new.tables c.args.table c.if-not-is_new.ensures
    (puts c.in_ok-back.back.row c.args.item c.args.tables.now c.add.new.tables c.args.table c.in_ok-back.ensures.rising c.in_ok-back.ensures.was c.in_ok-back.ensures.tables)

pub returns-clause-undo : goal.returns-clause-undo
returns-clause-undo c = rw c.in_ok-push.ensures.ok (keeps c.args.undo.now c.in_ok-back.back c.args.tables.now c.add.new.tables c.in_ok-back.ensures.back)

pub returns-then-not-is_new-clause-rows : goal.returns-then-not-is_new-clause-rows
returns-then-not-is_new-clause-rows c =
    puts_none c.in_ok-back.back.row c.args.item c.args.tables.now c.add.new.tables c.args.table c.if-not-is_new.ensures
    (puts c.in_ok-back.back.row c.args.item c.args.tables.now c.add.new.tables c.args.table c.in_ok-back.ensures.rising c.in_ok-back.ensures.was c.in_ok-back.ensures.tables)

pub returns-then-not-is_new-clause-undo : goal.returns-then-not-is_new-clause-undo
returns-then-not-is_new-clause-undo c = rw c.in_ok-push.ensures.ok (keeps c.args.undo.now c.in_ok-back.back c.args.tables.now c.add.new.tables c.in_ok-back.ensures.back)
