use Rattle.std.proofs.Common.{[], ◌∷◌, ap, ◌∙◌}
use Rattle.std.specs.Bool.{then_some}
use Rattle.mv_table.specs.declared.scan.Direction.TheVariants.{Forward, Backward}
use Rattle.mv_eval.proofs.FirstRows.{led_if, leads_up, leads_down}
use Rattle.mv_eval.proofs.chosen.sort_direction.Goals as goal

pub returns-then-sort-clause-is : goal.returns-then-sort-clause-is
returns-then-sort-clause-is c = rw c.if-sort.true (c.then_some.ensures ∙ ap (λ b. then_some b Backward) c.rises.ensures.is)

pub returns-then-sort-clause-leads : goal.returns-then-sort-clause-leads
returns-then-sort-clause-leads c =
    led_if (c.args.sort ∷ []) c.args.keys.now c.args.tests.now Backward c.rises.result c.then_some.result c.then_some.ensures (λ so. leads_down c.args.sort c.args.keys.now c.args.tests.now c.if-sort.true (c.rises.ensures.order so))

pub returns-else-sort-clause-is : goal.returns-else-sort-clause-is
returns-else-sort-clause-is c = rw c.if-sort.false (c.then_some-else-sort.ensures ∙ ap (λ b. then_some b Forward) c.never_falls.ensures.is)

pub returns-else-sort-clause-leads : goal.returns-else-sort-clause-leads
returns-else-sort-clause-leads c =
    led_if (c.args.sort ∷ []) c.args.keys.now c.args.tests.now Forward c.never_falls.result c.then_some-else-sort.result c.then_some-else-sort.ensures (λ so. leads_up c.args.sort c.args.keys.now c.args.tests.now c.if-sort.false (c.never_falls.ensures.order so))
