use Rattle.std.proofs.Common.{◌≡◌, drop}
use Rattle.mv_repair.specs.Walking.{reads_by}
use Rattle.mv_repair.proofs.walk.reads_stay.Given as goal

abbrev pub invariant-loop-number : goal.invariant-loop-number
invariant-loop-number l = reads_by l.kept (drop l.number l.olds) (drop l.number l.ahead.reads) ≡ reads_by l.kept l.olds l.ahead.reads
