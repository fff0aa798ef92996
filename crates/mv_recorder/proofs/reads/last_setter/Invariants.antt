use Rattle.std.proofs.Common.{◌≡◌, ◌≤◌, None, length, drop}
use Rattle.mv_recorded.specs.Reading.{last_place, sets_variable}
use Rattle.mv_recorder.proofs.reads.last_setter.Given as goal

abbrev pub invariant-loop-left : goal.invariant-loop-left
invariant-loop-left l = record {
  none : last_place (sets_variable l.x) l.left (drop l.left l.records) ≡ None;
  within : l.left ≤ length l.records;
}

abbrev pub decreases-loop-left : goal.decreases-loop-left
decreases-loop-left l = l.left
