use Rattle.std.proofs.Common.{ap, ◌∙◌}
use Rattle.mv_values.specs.Preds.{meets}
use Rattle.mv_table.specs.Scans.{foremost}
use Rattle.mv_table.proofs.Covering.{covered}
use Rattle.mv_eval.specs.Rows.{matching}
use Rattle.mv_eval.proofs.foremost.foremost_of.Goals as goal

pub returns-clause-row : goal.returns-clause-row
returns-clause-row c =
    c.foremost_match.ensures
    ∙ ap (foremost c.args.direction)
    (ap (matching c.args.tests.now) c.range.ensures.rows ∙ covered c.args.tests.now c.in_ok-span.span c.args.table.now c.in_ok-span.ensures.covers (λ item. meets c.args.tests.now item.row) c.requires)
