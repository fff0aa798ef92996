use Rattle.std.proofs.Common.{◌≤◌, All, length, sym, subst, arith}
use Rattle.std.specs.Prelude.{IfOk}
use Rattle.mv_eval.specs.Rows.{IsPlaced}
use Rattle.mv_eval.proofs.Few.{key_few}
use Rattle.mv_eval.proofs.Spanning.{placed_where}
use Rattle.mv_eval.proofs.find.tests_from.Goals as goal

pub tests_by-requires : goal.tests_by-requires
tests_by-requires c =
    let few = subst (λ ks. length ks ≤ 32) (sym c.key_in.ensures) (key_few c.args.infos.now c.args.table c.requires) in
    omega (arith, few)

pub returns-clause-tests : goal.returns-clause-tests
returns-clause-tests c = rw c.key_in.ensures at c.tests_by.ensures

pub returns-clause-places : goal.returns-clause-places
returns-clause-places c =
    subst (λ ks. IfOk c.tests_by.result (All (IsPlaced ks))) c.key_in.ensures (placed_where c.key_in.result.now c.args.conds.now c.args.env.now c.tests_by.result c.tests_by.ensures)
