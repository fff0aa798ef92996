use Rattle.std.proofs.lemmas.Result.{err_from_is_err_and}
use Rattle.mv_explain.proofs.Telling.{fault_told}
use Rattle.mv_explain.proofs.explain.explain.Goals as goal

pub returns-in_err-write_events : goal.returns-in_err-write_events
returns-in_err-write_events c =
    let p = err_from_is_err_and c.from_residual-in_err-write_events.result c.from_residual-in_err-write_events.ensures.1 in
    rw (p.1, p.2) (fault_told c.args.tables.now c.args.events.now c.args.script c.in_ok-core.core.book c.write_events.new.core.book c.new-text.result c.write_events.new.text c.in_err-write_events.field-0.0 c.in_ok-core.ensures.script c.in_ok-core.ensures.schedule c.in_err-write_events.ensures)

pub returns-in_err-append : goal.returns-in_err-append
returns-in_err-append c =
    let p = err_from_is_err_and c.from_residual-in_err-append.result c.from_residual-in_err-append.ensures.1 in
    rw (p.1, p.2) tt
