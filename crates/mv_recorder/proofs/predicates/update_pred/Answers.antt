use Rattle.std.proofs.Common.{sym, subst, ◌∙◌}
use Rattle.mv_eval.specs.Results.{Gives}
use Rattle.mv_recorded.specs.Effects.{asks}
use Rattle.mv_recorded.specs.Naming.{AreColumns}
use Rattle.mv_recorder.proofs.predicates.update_pred.Goals as goal

pub pred_from-requires-clause-columns : goal.pred_from-requires-clause-columns
pred_from-requires-clause-columns c = subst (AreColumns c.args.tables.now c.args.update.now.table) (sym (c.as_slice.ensures ∙ c.in_ok-asked.ensures)) c.requires.columns

pub returns-clause-asks : goal.returns-clause-asks
returns-clause-asks c =
    subst (λ cs. Gives c.pred_from.result (asks c.args.tables.now c.args.update.now.table c.args.update.now.conds.now cs c.args.env.now)) (c.as_slice.ensures ∙ c.in_ok-asked.ensures) c.pred_from.ensures.asks

pub returns-clause-knows : goal.returns-clause-knows
returns-clause-knows c = c.pred_from.ensures.knows
