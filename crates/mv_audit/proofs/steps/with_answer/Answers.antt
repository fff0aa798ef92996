use Rattle.std.proofs.Common.{slice_set, ap, ◌∙◌}
use Rattle.mv_audit.proofs.Stepping.{answer_made}
use Rattle.mv_audit.proofs.steps.with_answer.Goals as goal

pub returns : goal.returns
returns c l at =
    answer_made c.args.schedule c.args.call c.replace-old.result c.blank.result c.answered.result c.push.new.self c.set.new.self c.replace-old.ensures.back c.answered.ensures
    (c.set.ensures ∙ ap (λ ls. slice_set ls c.args.call c.answered.result) c.replace-old.ensures.items) c.in_ok-push.ensures.ok l at
