use Rattle.std.proofs.Common.{ap, ◌∙◌}
use Rattle.std.specs.Bool.{then_some}
use Rattle.mv_eval.proofs.FirstRows.{told_if}
use Rattle.mv_eval.proofs.extremes.told_by.Goals as goal

pub returns-clause-is : goal.returns-clause-is
returns-clause-is c = c.then_some.ensures ∙ ap (λ b. then_some b (c.args.column, c.args.direction)) c.never_falls.ensures.is

pub returns-clause-order : goal.returns-clause-order
returns-clause-order c = told_if c.args.keys.now c.args.tests.now c.args.column c.args.direction c.never_falls.result c.then_some.result c.then_some.ensures c.never_falls.ensures.order
