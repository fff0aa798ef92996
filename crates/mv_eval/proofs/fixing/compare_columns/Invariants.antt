use Rattle.std.proofs.Common.{◌≡◌, drop}
use Rattle.mv_values.specs.Columns.{columns_of}
use Rattle.mv_values.specs.Order.{key_order}
use Rattle.mv_eval.proofs.fixing.compare_columns.Given as goal

abbrev pub invariant-loop-c : goal.invariant-loop-c
invariant-loop-c l = key_order (columns_of l.a (drop l.c-index l.columns)) (columns_of l.b (drop l.c-index l.columns)) ≡ key_order (columns_of l.a l.columns) (columns_of l.b l.columns)
