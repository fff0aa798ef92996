use Rattle.std.proofs.Common.{take, ap}
use Rattle.mv_log.specs.Logged.{Logged}
use Rattle.mv_recorded.specs.Recorded.{outside}
use Rattle.mv_exec.specs.Frames.{site_of}
use Rattle.mv_exec.proofs.Logs.{turns_step}
use Rattle.mv_exec.proofs.recording.push_turns.Goals as goal

pub loop-frame-preserved : goal.loop-frame-preserved
loop-frame-preserved c =
    turns_step c.args.log.now c.loop-frame.log c.push_turn.new.log c.args.frames.now c.loop-frame.frame-index _ c.loop-frame-test.true c.loop-frame.invariant
    (c.in_ok-push_turn.ensures.ok (site_of outside (take c.loop-frame.frame-index c.args.frames.now)) (ap (λ (l : Logged). l.turns) c.loop-frame.invariant))
