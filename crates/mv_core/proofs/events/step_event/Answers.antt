use Rattle.std.proofs.Common.{true, subst}
use Rattle.std.proofs.lemmas.Result.{err_from_is_err_and}
use Rattle.mv_core.specs.Cores.{MayStep}
use Rattle.mv_core.proofs.Changed.{step_refused}
use Rattle.mv_core.proofs.events.step_event.Goals as goal

pub returns-in_err-step : goal.returns-in_err-step
returns-in_err-step c =
    let may : MayStep true c.args.core.now.book c.args.call = subst (λ b. MayStep b c.args.core.now.book c.args.call) c.if-not-may_step.false c.may_step.ensures in
    let p = err_from_is_err_and c.from_residual.result c.from_residual.ensures.1 in
    rw (p.1, p.2) (step_refused c.args.call c.args.core.now.book c.step.new.self.book c.in_err-step.field-0.0 may.1 c.in_err-step.ensures.made)
