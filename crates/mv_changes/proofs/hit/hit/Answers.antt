use Rattle.std.proofs.Common.{ap, ◌∙◌}
use Rattle.std.specs.Prelude.{◌==◌, ◌&&◌}
use Rattle.std.specs.List.{list_any}
use Rattle.mv_values.specs.declared.pred.Pred.{Pred}
use Rattle.mv_undo.specs.Owning.{earlier}
use Rattle.mv_changes.specs.Hitting.{hits_pred}
use Rattle.mv_changes.proofs.Hitting.{record_hit}
use Rattle.mv_changes.proofs.hit.hit.Goals as goal

pub returns : goal.returns
returns c before writes =
    let own = earlier c.args.number c.args.undo.now in
    c.hits_one.ensures
    ∙ (ap (list_any (λ (p : Pred). (p.table == c.args.change.now.table) && hits_pred own c.args.change.now p)) c.preds.ensures ∙ record_hit own before c.args.change.now c.args.record.now writes)
