use Rattle.std.proofs.Common.{◌≡◌, ◌++◌, map, drop}
use Rattle.mv_values.specs.declared.op.Op.TheVariants.{Eq}
use Rattle.mv_values.specs.Columns.{column_of}
use Rattle.mv_eval.specs.Rows.{test_on}
use Rattle.mv_recorded.specs.Asking.{same_key}
use Rattle.mv_checks.proofs.parents.key_tests.Given as goal

abbrev pub invariant-loop-column : goal.invariant-loop-column
invariant-loop-column l = l.tests ++ map (λ c. test_on l.keys c Eq (column_of l.row c)) (drop l.column-index l.keys) ≡ same_key l.keys l.row
