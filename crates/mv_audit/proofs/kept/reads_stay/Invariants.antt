use Rattle.std.proofs.Common.{◌≡◌, drop}
use Rattle.mv_audit.specs.Comparing.{reads_by}
use Rattle.mv_audit.proofs.kept.reads_stay.Given as goal

abbrev pub invariant-loop-i : goal.invariant-loop-i
invariant-loop-i l = reads_by l.known.flags.now l.known.old.now l.known.new.now (drop l.i l.old) (drop l.i l.new) ≡ reads_by l.known.flags.now l.known.old.now l.known.new.now l.old l.new
