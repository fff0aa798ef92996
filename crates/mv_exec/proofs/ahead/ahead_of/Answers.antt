use Rattle.std.proofs.Common.{◌≡◌, Some, sym, ap, subst, ◌∙◌}
use Rattle.mv_recorded.specs.Recorded.{outside}
use Rattle.mv_exec.specs.Frames.{site_in, site_of}
use Rattle.mv_exec.specs.Ahead.{ahead_at, PeeksLeft}
use Rattle.mv_exec.proofs.Positioning.{small_here}
use Rattle.mv_exec.proofs.Peeking.{peeks}
use Rattle.mv_exec.proofs.ahead.ahead_of.Goals as goal

pub ahead_at-requires : goal.ahead_at-requires
ahead_at-requires c =
    small_here c.args.graph.now.procedure c.args.task.now c.args.position.frame c.requires.goes_on.s c.args.position.turn c.requires.task c.requires.live c.requires.goes_on.is c.requires.short

pub returns : goal.returns
returns c =
    let go = c.requires.goes_on.is in
    let frames : c.outer-frames.result.now ≡ go.outer = c.outer-frames.ensures go.outer go.last (c.as_slice.ensures ∙ go.are) in
    subst (λ ahead. PeeksLeft c.args.graph.now.procedure c.args.task.now (Some ahead))
    (sym (c.ahead_at.ensures
    ∙ (ap (λ ds. ahead_at ds (site_in c.args.position.frame.holder (site_of outside c.outer-frames.result.now)) c.args.position.frame.number c.as_slice-3.result.now) c.as_slice-2.ensures
    ∙ (ap (λ ps. ahead_at c.args.task.now.definers (site_in c.args.position.frame.holder (site_of outside ps)) c.args.position.frame.number c.as_slice-3.result.now) frames
    ∙ ap (ahead_at c.args.task.now.definers (site_in c.args.position.frame.holder (site_of outside go.outer)) c.args.position.frame.number) c.as_slice-3.ensures))))
    (peeks c.args.graph.now.procedure c.args.task.now c.args.position.frame c.requires.goes_on.s c.args.position.turn c.args.position.step.now c.requires.task c.requires.live c.requires.params
    go c.requires.goes_on.tells)
