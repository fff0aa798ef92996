use Rattle.std.proofs.Common.{◌≡◌, drop}
use Rattle.mv_values.specs.Columns.{columns_of}
use Rattle.mv_eval.specs.Env.{with_values}
use Rattle.mv_eval.proofs.env.set_columns.Given as goal

abbrev pub invariant-loop-i : goal.invariant-loop-i
invariant-loop-i l = with_values l.env (drop l.i l.to) (columns_of l.row (drop l.i l.columns)) ≡ with_values l.fn.env l.to (columns_of l.row l.columns)
