use Rattle.std.proofs.Common.{◌+◌, ap, ◌∙◌}
use Rattle.mv_exec.specs.Holding.{some_loop}
use Rattle.mv_exec.proofs.Held.{body_inside}
use Rattle.mv_exec.proofs.moves.inner_frame.Goals as goal

pub returns-in-Body : goal.returns-in-Body
returns-in-Body c = λ proc s tells.
    c.loop_frame.ensures
    ∙ (ap (some_loop c.args.record c.in-Body.row (c.args.position.frame.number + 1)) c.saturating_sub.ensures
    ∙ body_inside proc s c.args.position.step.now c.args.record c.args.position.frame.number c.in-Body.row c.args.yes tells c.in-Body.ensures)
