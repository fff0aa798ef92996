use Rattle.std.proofs.Common.{ℕ, [], map, take}
use Rattle.std.proofs.Common.{List as Seq}
use Rattle.mv_csvio.specs.Csv.{field_of}
use Rattle.mv_csvio.specs.Writing.{HasWritten}
use Rattle.mv_csvio.proofs.dump.write_row.Given as goal

abbrev pub invariant-loop-value : goal.invariant-loop-value
invariant-loop-value l = (before : Seq ℕ) → HasWritten l.fn.writer before [] → HasWritten l.writer before (map field_of (take l.value-index l.row))
