use Rattle.std.proofs.Common.{ap, ◌∙◌}
use Rattle.std.specs.Prelude.{◌==◌}
use Rattle.std.specs.List.{list_any, filter}
use Rattle.mv_values.specs.declared.pred.Pred.{Pred}
use Rattle.mv_history.specs.declared.change.Change.{Change}
use Rattle.mv_undo.specs.Owning.{earlier}
use Rattle.mv_changes.specs.Hitting.{hits_admitted}
use Rattle.mv_changes.proofs.Admitting.{record_hit_admitted}
use Rattle.mv_changes.proofs.hit.any_hit.Goals as goal

pub returns : goal.returns
returns c before writes admitted =
    let own = earlier c.args.number c.args.undo.now in
    c.commit_hits_one.ensures
    ∙ (ap (list_any (λ (p : Pred). list_any (λ x. hits_admitted own x p) (filter (λ (x : Change). x.table == p.table) c.args.changes.now))) c.preds.ensures
    ∙ record_hit_admitted own before c.args.changes.now c.args.record.now writes admitted)
