use Rattle.std.proofs.Common.{rules, ◌≡◌, [], length, sym, ap, subst}
use Rattle.std.proofs.lemmas.List.{nil_from_length}
use Rattle.mv_table.specs.declared.scan.Direction.TheVariants.{Forward}
use Rattle.mv_eval.specs.FirstRows.{Leads, order_direction}
use Rattle.mv_eval.proofs.FirstRows.{leads_plain}
use Rattle.mv_eval.proofs.chosen.order_direction.Goals as goal

pub returns-in_default-clause-is : goal.returns-in_default-clause-is
returns-in_default-clause-is c =
    let short : length c.args.sorts.now ≡ 0 = search rules in
    let none : c.args.sorts.now ≡ [] = nil_from_length c.args.sorts.now short in
    ap (λ sorts. order_direction sorts c.args.keys.now c.args.tests.now) (sym none)

pub returns-in_default-clause-leads : goal.returns-in_default-clause-leads
returns-in_default-clause-leads c =
    let short : length c.args.sorts.now ≡ 0 = search rules in
    let none : c.args.sorts.now ≡ [] = nil_from_length c.args.sorts.now short in
    subst (λ sorts. Leads sorts c.args.keys.now c.args.tests.now Forward) (sym none) (leads_plain c.args.keys.now c.args.tests.now)
