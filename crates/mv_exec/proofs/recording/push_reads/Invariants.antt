use Rattle.std.proofs.Common.{◌≡◌, ◌++◌, map, drop}
use Rattle.std.specs.Option.{option_or}
use Rattle.mv_recorded.specs.Reading.{loop_of}
use Rattle.mv_recorded.specs.Recorded.{outside}
use Rattle.mv_exec.specs.Frames.{site_in, site_of}
use Rattle.mv_exec.specs.Recording.{opened}
use Rattle.mv_exec.specs.Tasks.{definer_in}
use Rattle.mv_exec.proofs.recording.push_reads.Given as goal

abbrev pub invariant-loop-slot : goal.invariant-loop-slot
invariant-loop-slot l = record {
  rest : l.log ≡ opened l.fn.log l.fn.log.turns l.log.reads;
  same : l.log.reads ++ map (λ x. record { slot = x; definer = option_or (loop_of x (site_in l.holder (site_of outside l.frames)).loops) (definer_in l.definers x) }) (drop l.slot-index l.variables)
      ≡ map (λ x. record { slot = x; definer = option_or (loop_of x (site_in l.holder (site_of outside l.frames)).loops) (definer_in l.definers x) }) l.variables;
}
