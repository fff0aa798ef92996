use Rattle.std.proofs.Common.{◌≤◌, length, sym, subst, arith}
use Rattle.mv_eval.proofs.Few.{key_few}
use Rattle.mv_checks.proofs.children.child_pred.Goals as goal

pub tests_of_key-requires : goal.tests_of_key-requires
tests_of_key-requires c =
    let few = subst (λ ks. length ks ≤ 32) (sym c.key_in-keys.ensures) (key_few c.args.tables.now c.args.child.table c.requires) in
    omega (arith, few)
