use Rattle.std.proofs.Common.{◌≤◌, length, sym, subst, arith}
use Rattle.mv_checks.proofs.Referring.{columns_few}
use Rattle.mv_checks.proofs.parents.parent_checks.Goals as goal

pub push_columns-requires-clause-narrow : goal.push_columns-requires-clause-narrow
push_columns-requires-clause-narrow c =
    let few = subst (λ cs. length cs ≤ 32) (sym c.columns_in-columns.ensures) (columns_few c.args.tables.now c.args.table c.requires) in
    omega (arith, few)
