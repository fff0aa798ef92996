use Rattle.std.proofs.Common.{sym, ap}
use Rattle.mv_exec.specs.declared.frames.Holder.{Holder}
use Rattle.mv_exec.specs.declared.frames.Frame.{Frame}
use Rattle.mv_exec.specs.Frames.{in_next_turn}
use Rattle.mv_exec.proofs.position.frame_in_next_turn.Goals as goal

pub returns : goal.returns
returns c = ap (λ (h : Holder). (let p : Frame = record { holder = in_next_turn h; first = c.args.frame.first; at = 0; number = c.args.frame.first } in p)) (sym c.in-Loop.is)
