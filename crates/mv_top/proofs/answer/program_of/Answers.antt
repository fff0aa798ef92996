use Rattle.std.proofs.lemmas.Result.{err_from_is_err_and}
use Rattle.mv_top.proofs.Judging.{not_accepted_only, not_accepted_refused, not_accepted_told}
use Rattle.mv_top.proofs.answer.program_of.Goals as goal

pub returns-clause-told : goal.returns-clause-told
returns-clause-told c = λ refusal cause. c.in_ok-accept.ensures.exact.told refusal cause

pub returns-in_err-accept-clause-only : goal.returns-in_err-accept-clause-only
returns-in_err-accept-clause-only c =
    let p = err_from_is_err_and c.from_residual.result c.from_residual.ensures.1 in
    λ program accepted. rw (p.1, p.2) (not_accepted_only c.in_err-accept.field-0.0 (c.in_err-accept.ensures.exact.only program accepted))

pub returns-in_err-accept-clause-refused : goal.returns-in_err-accept-clause-refused
returns-in_err-accept-clause-refused c =
    let p = err_from_is_err_and c.from_residual.result c.from_residual.ensures.1 in
    rw (p.1, p.2) (not_accepted_refused c.args.script.now c.in_err-accept.field-0.0 c.in_err-accept.ensures.exact.refused)

pub returns-in_err-accept-clause-told : goal.returns-in_err-accept-clause-told
returns-in_err-accept-clause-told c =
    let p = err_from_is_err_and c.from_residual.result c.from_residual.ensures.1 in
    λ refusal cause. rw (p.1, p.2) (not_accepted_told c.in_err-accept.field-0.0 refusal (c.in_err-accept.ensures.exact.told refusal cause))
