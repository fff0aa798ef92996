use Rattle.std.proofs.Common.{◌≡◌, take}
use Rattle.mv_recorded.specs.Recorded.{outside}
use Rattle.mv_exec.specs.Frames.{site_of}
use Rattle.mv_exec.proofs.around.turns_around.Given as goal

abbrev pub invariant-loop-frame : goal.invariant-loop-frame
invariant-loop-frame l = l.turns ≡ (site_of outside (take l.frame-index l.frames)).turns
