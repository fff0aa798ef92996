use Rattle.std.proofs.Common.{◌≤◌, length, sym, subst, arith}
use Rattle.mv_eval.proofs.Few.{key_few}
use Rattle.mv_checks.proofs.parents.parent_pred.Goals as goal

pub parent_tests-requires : goal.parent_tests-requires
parent_tests-requires c =
    let few = subst (λ ks. length ks ≤ 32) (sym c.key_in.ensures) (key_few c.args.tables.now c.args.parent c.requires) in
    omega (arith, few)
