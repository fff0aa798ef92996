use Rattle.std.proofs.Common.{ap}
use Rattle.std.proofs.lemmas.Result.{err_from_is_err_and}
use Rattle.std.specs.Prelude.{not}
use Rattle.mv_journal.specs.declared.event.Event.TheVariants.{X}
use Rattle.mv_core.proofs.Changed.{last_refused, round_allowed, round_writes}
use Rattle.mv_core.proofs.events.decide_event.Goals as goal

pub exclusive-requires-clause-allowed : goal.exclusive-requires-clause-allowed
exclusive-requires-clause-allowed c = round_allowed c.args.core.now.book c.round_left.new.core.book (X c.args.call) _ c.in_ok-more.ensures.0 c.in_ok-more.ensures.3 (ap not c.if-more.false)

pub returns-in_err-exclusive : goal.returns-in_err-exclusive
returns-in_err-exclusive c =
    let p = err_from_is_err_and c.from_residual-in_err-exclusive.result c.from_residual-in_err-exclusive.ensures.1 in
    rw (p.1, p.2) (last_refused c.args.call c.args.core.now.book c.round_left.new.core.book c.exclusive.new.self.book c.in_err-exclusive.field-0.0 (round_writes c.args.core.now.book c.args.call _ c.in_ok-more.ensures.1 c.in_ok-more.ensures.2) c.in_ok-more.ensures.0 c.in_err-exclusive.ensures.made)
