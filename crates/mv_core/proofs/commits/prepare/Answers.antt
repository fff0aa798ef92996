use Rattle.std.proofs.Common.{◌∙◌}
use Rattle.mv_values.proofs.Deciding.{always_err}
use Rattle.mv_core.proofs.Stored.{stored_dropped, stored_stamped}
use Rattle.mv_core.proofs.commits.prepare.Goals as goal

pub returns-in_err-put_told-clause-err : goal.returns-in_err-put_told-clause-err
returns-in_err-put_told-clause-err c =
    always_err c.from_residual-in_err-put_told.result _ (stored_dropped c.args.book.now c.args.store.now c.put_told.new.store c.args.call c.requires.stored c.in_err-put_told.ensures.err)

pub returns-clause-ok : goal.returns-clause-ok
returns-clause-ok c = record {
  last = c.in_ok-put_told.ensures.ok.reads.last ∙ c.requires.stored.last;
  stamped = λ n new is stamp.
      stored_stamped c.args.book.now.script c.args.book.now.schedule.order c.args.book.now.schedule.low c.args.call n c.args.records.now c.args.store.now c.put_told.new.store new
      c.requires.stored c.requires.number is c.tell_last.ensures.like c.in_ok-put_told.ensures.ok stamp c.requires.whole;
}
