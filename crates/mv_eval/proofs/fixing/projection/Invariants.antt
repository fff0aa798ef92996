use Rattle.std.proofs.Common.{◌≡◌, ◌++◌, drop}
use Rattle.mv_values.specs.Columns.{columns_of}
use Rattle.mv_eval.proofs.fixing.projection.Given as goal

abbrev pub invariant-loop-c : goal.invariant-loop-c
invariant-loop-c l = l.values ++ columns_of l.row (drop l.c-index l.columns) ≡ columns_of l.row l.columns
