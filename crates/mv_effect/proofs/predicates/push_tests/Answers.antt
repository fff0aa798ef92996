use Rattle.std.proofs.Common.{◌≤◌, All, length, sym, subst, arith}
use Rattle.std.specs.Prelude.{IfOk}
use Rattle.mv_values.specs.Tables.{key_columns}
use Rattle.mv_eval.specs.Rows.{IsPlaced}
use Rattle.mv_eval.proofs.Few.{key_few}
use Rattle.mv_eval.proofs.Spanning.{placed_where}
use Rattle.mv_effect.specs.Stops.{leaving}
use Rattle.mv_effect.proofs.OnePred.{on_leaving}
use Rattle.mv_effect.proofs.predicates.push_tests.Goals as goal

pub push_tests_by-requires-clause-few : goal.push_tests_by-requires-clause-few
push_tests_by-requires-clause-few c =
    let few = subst (λ ks. length ks ≤ 32) (sym c.key_in.ensures) (key_few c.args.tables.now c.args.table c.requires.each) in
    omega (arith, few)

pub returns-clause-tests : goal.returns-clause-tests
returns-clause-tests c = rw c.key_in.ensures at c.push_tests_by.ensures.tests

pub returns-clause-places : goal.returns-clause-places
returns-clause-places c =
    let left = leaving c.push_tests_by.result c.push_tests_by.new.log.tests in
    on_leaving (All (IsPlaced (key_columns c.args.tables.now c.args.table))) c.push_tests_by.result c.push_tests_by.new.log.tests
    (subst (λ ks. IfOk left (All (IsPlaced ks))) c.key_in.ensures (placed_where c.key_in.result.now c.args.conds.now c.args.env.now left c.push_tests_by.ensures.tests))
