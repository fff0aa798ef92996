use Rattle.std.proofs.Common.{◌≡◌, ◌++◌, Some, drop, map, length}
use Rattle.csv.specs.Records.{fields_of}
use Rattle.mv_csvio.specs.Fields.{values_in}
use Rattle.mv_csvio.proofs.record.row_of.Given as goal

abbrev pub invariant-loop-column : goal.invariant-loop-column
invariant-loop-column l = (l.place ≡ l.column-index)
    × (length (fields_of l.fields) ≡ length l.columns)
    × (length l.row ≡ l.column-index)
    × (values_in l.columns (fields_of l.fields) ≡ map Some l.row ++ values_in (drop l.column-index l.columns) (drop l.column-index (fields_of l.fields)))
