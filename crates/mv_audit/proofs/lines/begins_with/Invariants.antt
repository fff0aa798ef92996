use Rattle.std.proofs.Common.{◌≡◌, drop}
use Rattle.mv_report.specs.JournalLines.{begins_with}
use Rattle.mv_audit.proofs.lines.begins_with.Given as goal

abbrev pub invariant-loop-i : goal.invariant-loop-i
invariant-loop-i l = begins_with (drop l.i l.line) (drop l.i l.word) ≡ begins_with l.line l.word
