use Rattle.std.proofs.Common.{◌++◌, map, sym, ap, ◌∙◌, append-nil}
use Rattle.std.proofs.lemmas.List.{drop_all}
use Rattle.mv_values.specs.declared.op.Op.TheVariants.{Eq}
use Rattle.mv_eval.specs.Rows.{test_on}
use Rattle.mv_checks.proofs.parents.parent_tests.Goals as goal

pub returns : goal.returns
returns c =
    let keys = c.args.keys.now in
    let none = drop_all c.loop-column.column-index keys c.loop-column-test.false in
    sym (ap (λ ks. c.loop-column.tests ++ map (λ k. test_on keys k Eq c.args.value.now) ks) none ∙ append-nil c.loop-column.tests) ∙ c.loop-column.invariant
