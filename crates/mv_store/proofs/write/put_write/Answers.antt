use Rattle.mv_store.proofs.Putting.{done_index, done_elsewhere, failed_index, failed_elsewhere}
use Rattle.mv_store.proofs.write.put_write.Goals as goal

pub returns-in-Ok-clause-index : goal.returns-in-Ok-clause-index
returns-in-Ok-clause-index c =
    let w = c.args.write.now in
    done_index w.table w.key c.args.call w.patch c.in-Ok.earlier c.args.table.now c.note_and_put.new.table c.args.index.now c.note_and_put.new.index c.forget_replaced.new.index c.note_and_put.ensures.some (rw c.as_ref.ensures.value at c.forget_replaced.ensures) c.in-Ok.ensures.earlier
    c.in-Ok.ensures.ok c.in-Ok.ensures.all

pub returns-in-Ok-clause-elsewhere : goal.returns-in-Ok-clause-elsewhere
returns-in-Ok-clause-elsewhere c =
    let w = c.args.write.now in
    done_elsewhere w.table w.key c.args.call w.patch c.in-Ok.earlier c.args.table.now c.note_and_put.new.table c.args.index.now c.note_and_put.new.index c.forget_replaced.new.index c.note_and_put.ensures.some (rw c.as_ref.ensures.value at c.forget_replaced.ensures) c.in-Ok.ensures.earlier
    c.in-Ok.ensures.ok

pub returns-in-Err-clause-index : goal.returns-in-Err-clause-index
returns-in-Err-clause-index c =
    let w = c.args.write.now in
    failed_index w.table w.key c.args.call w.patch c.args.table.now c.note_and_put.new.table c.args.index.now c.note_and_put.new.index c.forget_unused.new.index c.note_and_put.ensures.some c.forget_unused.ensures c.in-Err.ensures.err

pub returns-in-Err-clause-elsewhere : goal.returns-in-Err-clause-elsewhere
returns-in-Err-clause-elsewhere c =
    let w = c.args.write.now in
    failed_elsewhere w.table w.key c.args.call w.patch c.args.table.now c.note_and_put.new.table c.args.index.now c.note_and_put.new.index c.forget_unused.new.index c.note_and_put.ensures.some c.forget_unused.ensures
