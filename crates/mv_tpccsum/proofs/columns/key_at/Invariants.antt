use Rattle.std.proofs.Common.{◌≡◌, take}
use Rattle.mv_values.specs.Columns.{columns_of}
use Rattle.mv_tpccsum.proofs.columns.key_at.Given as goal

abbrev pub invariant-loop-column : goal.invariant-loop-column
invariant-loop-column l = l.key ≡ columns_of l.row (take l.column-index l.columns)
