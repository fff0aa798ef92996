use Rattle.std.proofs.Common.{◌≡◌, subst}
use Rattle.std.specs.Prelude.{IfOk}
use Rattle.mv_values.specs.declared.pred.Pred.{Pred}
use Rattle.mv_values.specs.Patching.{applied, found_by}
use Rattle.mv_table.specs.Scans.{foremost}
use Rattle.mv_effect.specs.Seeing.{own_seen}
use Rattle.mv_effect.proofs.rows.first_asked.Goals as goal

pub returns-clause-found : goal.returns-clause-found
returns-clause-found g c =
    let db = applied (own_seen c.args.context.now c.args.log.now) (g.V.View.sight c.args.view.now).database in
    subst (λ (pred : Pred). IfOk c.first_visible.result (λ row. row ≡ foremost c.args.direction (found_by pred db))) c.asked_pred.ensures c.first_visible.ensures.found
