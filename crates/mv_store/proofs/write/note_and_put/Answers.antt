use Rattle.std.proofs.Common.{refl}
use Rattle.mv_values.proofs.Deciding.{always_err}
use Rattle.mv_store.proofs.Done.{changed_not}
use Rattle.mv_store.proofs.Noted.{on_sure}
use Rattle.mv_store.proofs.write.note_and_put.Goals as goal

pub returns-in_err-note-clause-err : goal.returns-in_err-note-clause-err
returns-in_err-note-clause-err c = always_err c.from_residual.result _ (changed_not c.args.write.now.key c.args.table.now c.args.table.now refl)

pub returns-clause-all : goal.returns-clause-all
returns-clause-all c = on_sure c.put_chain.result _ c.in_ok-note.ensures.all
