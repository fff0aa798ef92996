use Rattle.std.proofs.Common.{[], take}
use Rattle.mv_csvio.specs.Csv.{rows_csv}
use Rattle.mv_csvio.specs.Writing.{HasWritten}
use Rattle.mv_csvio.proofs.dump.csv_of.Given as goal

abbrev pub invariant-loop-item : goal.invariant-loop-item
invariant-loop-item l = HasWritten l.writer (rows_csv (take l.item-index l.rows)) []
