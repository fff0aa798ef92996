use Rattle.std.proofs.Common.{◌≡◌, ◌≤◌, ◌+◌, ◌++◌, length}
use Rattle.mv_report.specs.JournalLines.{lines_in, before_tables}
use Rattle.mv_audit.specs.Verdicts.{events_of}
use Rattle.mv_audit.proofs.lines.read_events.Given as goal

abbrev pub invariant-loop-split : goal.invariant-loop-split
invariant-loop-split l = record {
  few : length l.events + length l.left ≤ length l.bytes;
  events : l.events ++ events_of (before_tables (lines_in l.left)) ≡ events_of (before_tables (lines_in l.bytes));
  lines : length l.events + length (before_tables (lines_in l.left)) ≡ length (before_tables (lines_in l.bytes));
}

abbrev pub decreases-loop-split : goal.decreases-loop-split
decreases-loop-split l = length l.left
