use Rattle.std.proofs.Common.{◌≡◌, ◌++◌, drop, map}
use Rattle.mv_values.specs.declared.op.Op.TheVariants.{Eq}
use Rattle.mv_eval.specs.Rows.{test_on}
use Rattle.mv_eval.proofs.find.tests_of_key.Given as goal

abbrev pub invariant-loop-at : goal.invariant-loop-at
invariant-loop-at l = l.tests ++ map (λ v. test_on l.keys l.column Eq v) (drop l.at l.key) ≡ map (λ v. test_on l.keys l.column Eq v) l.key
