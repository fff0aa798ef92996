use Rattle.std.proofs.Common.{◌≤◌, length}
use Rattle.mv_exec.specs.Running.{IsRunning}
use Rattle.mv_unit_tests.proofs.records.adopt_all.Given as goal

abbrev pub invariant-loop : goal.invariant-loop
invariant-loop l = record {
  running : IsRunning l.graph l.task;
  rises : l.task.log.kept ≤ length l.task.log.records;
}
