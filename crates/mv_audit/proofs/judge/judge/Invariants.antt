use Rattle.std.proofs.Common.{◌≡◌, ◌≤◌, ◌+◌, length, drop}
use Rattle.mv_lawful.specs.Lawful.{reach, wrong_from, beginning}
use Rattle.mv_audit.specs.Schedules.{audited, schedule_of, IsSchedule}
use Rattle.mv_audit.proofs.judge.judge.Given as goal

abbrev pub invariant-loop-i : goal.invariant-loop-i
invariant-loop-i l = record {
  order : length l.schedule.order ≤ l.i;
  calls : length l.schedule.calls ≤ l.i;
  kept : IsSchedule l.program.resolved.tables (audited l.program l.rounds) l.schedule;
  wrong : wrong_from (audited l.program l.rounds) (l.i + 1) (schedule_of l.schedule) (drop l.i l.events) ≡ wrong_from (audited l.program l.rounds) 1 beginning l.events;
  reaches : reach (audited l.program l.rounds) (schedule_of l.schedule) (drop l.i l.events) ≡ reach (audited l.program l.rounds) beginning l.events;
}
