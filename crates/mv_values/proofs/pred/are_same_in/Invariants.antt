use Rattle.std.proofs.Common.{◌≡◌, ◌↔◌, drop}
use Rattle.mv_values.specs.Columns.{columns_of}
use Rattle.mv_values.proofs.pred.are_same_in.Given as goal

-- the rows agree in all columns exactly where they do in those that are left
abbrev pub invariant-loop-column : goal.invariant-loop-column
invariant-loop-column l =
    (columns_of l.a (drop l.column-index l.columns) ≡ columns_of l.b (drop l.column-index l.columns)) ↔ (columns_of l.a l.columns ≡ columns_of l.b l.columns)
