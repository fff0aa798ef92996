use Rattle.std.proofs.Common.{◌≡◌, take}
use Rattle.mv_recorded.specs.Recorded.{outside}
use Rattle.mv_exec.specs.Places.{site_of}
use Rattle.mv_exec.specs.Recording.{opened}
use Rattle.mv_exec.proofs.recording.push_turns.Given as goal

abbrev pub invariant-loop-place : goal.invariant-loop-place
invariant-loop-place l = l.log ≡ opened l.fn.log (site_of outside (take l.place-index l.places)).turns l.fn.log.reads
