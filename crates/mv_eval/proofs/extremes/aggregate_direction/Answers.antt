use Rattle.std.proofs.Common.{sym, ap, ◌∙◌}
use Rattle.mv_eval.specs.FirstRows.{aggregate_direction}
use Rattle.mv_eval.proofs.FirstRows.{min_from, max_from}
use Rattle.mv_eval.proofs.extremes.aggregate_direction.Goals as goal

pub returns-in-Min-clause-is : goal.returns-in-Min-clause-is
returns-in-Min-clause-is c = c.told_by.ensures.is ∙ ap (λ agg. aggregate_direction agg c.args.keys.now c.args.tests.now) (sym c.in-Min.is)

pub returns-in-Min-clause-tells : goal.returns-in-Min-clause-tells
returns-in-Min-clause-tells c = min_from c.args.agg c.args.keys.now c.args.tests.now c.in-Min.column c.told_by.result c.in-Min.is c.told_by.ensures.order

pub returns-in-Max-clause-is : goal.returns-in-Max-clause-is
returns-in-Max-clause-is c = c.told_by-in-Max.ensures.is ∙ ap (λ agg. aggregate_direction agg c.args.keys.now c.args.tests.now) (sym c.in-Max.is)

pub returns-in-Max-clause-tells : goal.returns-in-Max-clause-tells
returns-in-Max-clause-tells c = max_from c.args.agg c.args.keys.now c.args.tests.now c.in-Max.column c.told_by-in-Max.result c.in-Max.is c.told_by-in-Max.ensures.order
