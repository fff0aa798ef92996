use Rattle.std.proofs.Common.{slice_set, ap, ◌∙◌}
use Rattle.mv_audit.specs.Schedules.{restarted, mark_of}
use Rattle.mv_audit.proofs.Stepping.{round_made}
use Rattle.mv_audit.proofs.steps.with_round.Goals as goal

pub returns : goal.returns
returns c l at =
    let old = c.replace-old.result in
    let new = c.args.records in
    let given = c.args.reply in
    round_made c.args.schedule c.args.call old c.blank.result c.in_ok-live.live (mark_of c.args.moved) new given c.set.new.self c.replace-old.ensures.back
    (c.in_ok-live.ensures ∙ (ap (λ m. restarted old m new given c.as_slice.result.now) c.mark_of-mark.ensures ∙ ap (restarted old (mark_of c.args.moved) new given) c.as_slice.ensures))
    (c.set.ensures ∙ ap (λ ls. slice_set ls c.args.call c.in_ok-live.live) c.replace-old.ensures.items) l at
