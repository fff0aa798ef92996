use Rattle.std.proofs.Common.{◌≤◌, length, sym, subst, arith}
use Rattle.mv_eval.proofs.Few.{key_few}
use Rattle.mv_checks.proofs.parents.key_pred.Goals as goal

pub key_tests-requires : goal.key_tests-requires
key_tests-requires c =
    let few = subst (λ ks. length ks ≤ 32) (sym c.key_in.ensures) (key_few c.args.tables.now c.args.table c.requires.each) in
    omega (arith, few)
