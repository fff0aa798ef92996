use Rattle.std.proofs.Common.{◌≡◌, drop, map}
use Rattle.mv_recorded.specs.Reading.{loop_of}
use Rattle.mv_recorder.specs.Sites.{loop_in}
use Rattle.mv_recorder.proofs.reads.loop_of.Given as goal

abbrev pub invariant-loop-around : goal.invariant-loop-around
invariant-loop-around l = loop_of l.x (map loop_in (drop l.around-index l.loops)) ≡ loop_of l.x (map loop_in l.loops)
