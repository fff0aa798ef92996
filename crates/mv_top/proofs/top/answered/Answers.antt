use Rattle.std.proofs.lemmas.Grind.{common_steps}
use Rattle.std.proofs.Common.{◌∙◌, ap, subst, refl, arith}
use Rattle.mv_values.specs.Texts.{line}
use Rattle.mv_top.specs.declared.status.Fault.{Fault}
use Rattle.mv_top.specs.Answers.{IsToldBy}
use Rattle.mv_top.proofs.top.answered.Goals as goal

pub returns-in-Ok-clause-told : goal.returns-in-Ok-clause-told
returns-in-Ok-clause-told g c = λ refusal cause. absurd (c.in-Ok.ensures.told refusal cause)

pub returns-in_ok-ended-in-Err-Refused-clause-only : goal.returns-in_ok-ended-in-Err-Refused-clause-only
returns-in_ok-ended-in-Err-Refused-clause-only g c =
    λ program accepted. (let fault = c.in-Err-Refused.field-0-is in let want = c.in-Err-Refused.ensures.only program accepted in cc)

pub returns-in_ok-ended-in-Err-Refused-clause-told : goal.returns-in_ok-ended-in-Err-Refused-clause-told
returns-in_ok-ended-in-Err-Refused-clause-told g c =
    λ refusal cause. (let told = subst (λ (f : Fault). IsToldBy refusal f) c.in-Err-Refused.field-0-is (c.in-Err-Refused.ensures.told refusal cause) in
    (refl, c.in_ok-ended-in-Err-Refused.ensures ∙ ap line (c.as_slice.ensures.bytes ∙ told.1)))

pub returns-in-Ok-clause-found : goal.returns-in-Ok-clause-found
returns-in-Ok-clause-found g c = grind (arith, common_steps)
