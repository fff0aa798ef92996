use Rattle.std.proofs.Common.{◌≡◌, ◌++◌, drop, Ok}
use Rattle.mv_eval.specs.Results.{then_do}
use Rattle.mv_eval.specs.Rows.{tests_of}
use Rattle.mv_eval.proofs.find.tests_by.Given as goal

abbrev pub invariant-loop-cond : goal.invariant-loop-cond
invariant-loop-cond l = then_do (tests_of l.keys (drop l.cond-index l.conds) l.env) (λ rest. Ok (l.tests ++ rest)) ≡ tests_of l.keys l.conds l.env
