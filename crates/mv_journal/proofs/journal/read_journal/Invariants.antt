use Rattle.std.proofs.Common.{length}
use Rattle.std.specs.Str.Lines.{lines}
use Rattle.mv_journal.proofs.Reading.{HasRead}
use Rattle.mv_journal.proofs.journal.read_journal.Given as goal

abbrev pub invariant-loop-left : goal.invariant-loop-left
invariant-loop-left l = HasRead (lines l.bytes) (length l.bytes) l.left l.events

abbrev pub decreases-loop-left : goal.decreases-loop-left
decreases-loop-left l = length l.left
