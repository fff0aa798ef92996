use Rattle.std.proofs.Common.{sym, ◌∙◌}
use Rattle.std.proofs.lemmas.Result.{err_from_is_err_and}
use Rattle.mv_core.proofs.Changed.{answer_refused}
use Rattle.mv_core.proofs.events.answer_event.Goals as goal

pub returns-in_err-answer_read : goal.returns-in_err-answer_read
returns-in_err-answer_read c =
    let p = err_from_is_err_and c.from_residual.result c.from_residual.ensures.1 in
    rw (p.1, p.2) (answer_refused c.args.call c.args.core.now.book c.answer_read.new.self.book c.in_err-answer_read.field-0.0 (sym c.is_read_only.ensures ∙ c.if-not-is_read_only.false) c.in_err-answer_read.ensures.answered)
