use Rattle.std.proofs.Common.{◌≡◌, subst}
use Rattle.std.specs.Prelude.{IfOk}
use Rattle.mv_values.specs.declared.pred.Pred.{Pred}
use Rattle.mv_values.specs.Patching.{applied, found_by}
use Rattle.mv_effect.specs.Seeing.{own_seen}
use Rattle.mv_effect.proofs.rows.rows_asked.Goals as goal

pub returns-clause-found : goal.returns-clause-found
returns-clause-found g c =
    let db = applied (own_seen c.args.context.now c.args.log.now) (g.V.View.sight c.args.view.now).database in
    subst (λ (pred : Pred). IfOk c.visible_rows.result (λ rows. rows ≡ found_by pred db)) c.asked_pred.ensures c.visible_rows.ensures.found
