use Rattle.std.proofs.Common.{subst}
use Rattle.std.specs.Prelude.{IfSome}
use Rattle.mv_values.specs.declared.pred.Pred.{Pred}
use Rattle.mv_values.specs.Tables.{key_columns}
use Rattle.mv_eval.specs.FirstRows.{Leads}
use Rattle.mv_effect.proofs.queries.leading_asked.Goals as goal

pub returns-clause-leads : goal.returns-clause-leads
returns-clause-leads c = subst (λ (pred : Pred). IfSome c.leading_at.result (Leads c.args.sorts.now (key_columns c.args.context.now.tables.now pred.table) pred.tests)) c.asked_pred.ensures c.leading_at.ensures.leads
