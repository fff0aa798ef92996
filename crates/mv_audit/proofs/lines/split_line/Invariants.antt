use Rattle.std.proofs.Common.{◌≡◌, [], false, take, drop}
use Rattle.mv_report.specs.JournalLines.{lines_from}
use Rattle.mv_audit.proofs.lines.split_line.Given as goal

abbrev pub invariant-loop-i : goal.invariant-loop-i
invariant-loop-i l = lines_from l.quoted (take l.i l.bytes) (drop l.i l.bytes) ≡ lines_from false [] l.bytes
