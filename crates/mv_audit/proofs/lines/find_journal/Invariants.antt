use Rattle.std.proofs.Common.{◌≡◌, ◌≤◌, ◌+◌, length}
use Rattle.mv_report.specs.JournalLines.{lines_in, after_journal}
use Rattle.mv_audit.specs.Verdicts.{journal_at}
use Rattle.mv_audit.proofs.lines.find_journal.Given as goal

abbrev pub invariant-loop-split : goal.invariant-loop-split
invariant-loop-split l = record {
  few : l.at + length l.left ≤ length l.report + 1;
  at : journal_at l.at (lines_in l.left) ≡ journal_at 1 (lines_in l.report);
  rest : after_journal (lines_in l.left) ≡ after_journal (lines_in l.report);
}

abbrev pub decreases-loop-split : goal.decreases-loop-split
decreases-loop-split l = length l.left
