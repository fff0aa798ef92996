use Rattle.std.proofs.Common.{take, sym, ap, ◌∙◌}
use Rattle.mv_recorded.specs.Reading.{loop_of}
use Rattle.mv_recorded.specs.Recorded.{Site, outside}
use Rattle.mv_exec.specs.Frames.{site_of}
use Rattle.mv_exec.proofs.Framing.{site_step}
use Rattle.mv_exec.proofs.around.loop_around.Goals as goal

pub loop-frame-preserved : goal.loop-frame-preserved
loop-frame-preserved c =
    c.loop_in-found.ensures (site_of outside (take c.loop-frame.frame-index c.args.frames.now)) c.loop-frame.invariant
    ∙ ap (λ (s : Site). loop_of c.args.variable s.loops) (sym (site_step c.args.frames.now c.loop-frame.frame-index _ c.loop-frame-test.true))
