use Rattle.std.proofs.lemmas.Result.{err_from_is_err_and}
use Rattle.mv_journal.specs.declared.event.Event.TheVariants.{A}
use Rattle.mv_core.proofs.Changed.{again_refused, round_allowed, round_writes}
use Rattle.mv_core.proofs.events.repair_event.Goals as goal

pub again-requires-clause-allowed : goal.again-requires-clause-allowed
again-requires-clause-allowed c = round_allowed c.args.core.now.book c.round_left.new.core.book (A c.args.call) _ c.in_ok-more.ensures.0 c.in_ok-more.ensures.2 c.if-not-more.false

pub returns-in_err-again : goal.returns-in_err-again
returns-in_err-again c =
    let p = err_from_is_err_and c.from_residual-in_err-again.result c.from_residual-in_err-again.ensures.1 in
    rw (p.1, p.2) (record { taken = again_refused c.args.call c.args.core.now.book c.round_left.new.core.book c.again.new.self.book c.in_err-again.field-0.0 (round_writes c.args.core.now.book c.args.call _ c.in_ok-more.ensures.1 c.in_ok-more.ensures.2) c.in_ok-more.ensures.0 c.in_err-again.ensures.made; whole = tt })
