use Rattle.std.proofs.Common.{◌≡◌, map, drop}
use Rattle.mv_ast.specs.Limits.{together}
use Rattle.mv_print.specs.Printing.{written, column_and_comma}
use Rattle.mv_print.proofs.items.write_columns.Given as goal

abbrev pub invariant-loop-column : goal.invariant-loop-column
invariant-loop-column l = written l.text (together (map column_and_comma (drop l.column-index l.columns))) ≡ written l.fn.text (together (map column_and_comma l.columns))
