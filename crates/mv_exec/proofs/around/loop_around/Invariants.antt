use Rattle.std.proofs.Common.{◌≡◌, take}
use Rattle.mv_recorded.specs.Reading.{loop_of}
use Rattle.mv_recorded.specs.Recorded.{outside}
use Rattle.mv_exec.specs.Frames.{site_of}
use Rattle.mv_exec.proofs.around.loop_around.Given as goal

abbrev pub invariant-loop-frame : goal.invariant-loop-frame
invariant-loop-frame l = l.found ≡ loop_of l.variable (site_of outside (take l.frame-index l.frames)).loops
