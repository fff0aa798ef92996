use Rattle.std.proofs.Common.{◌≡◌, drop}
use Rattle.std.specs.Prelude.{◌==◌, ◌&&◌}
use Rattle.std.specs.List.{list_any}
use Rattle.mv_values.specs.declared.pred.Pred.{Pred}
use Rattle.mv_undo.specs.Owning.{earlier}
use Rattle.mv_changes.specs.Hitting.{hits_pred}
use Rattle.mv_changes.proofs.hit.hits_one.Given as goal

abbrev pub invariant-loop-at : goal.invariant-loop-at
invariant-loop-at l =
    list_any (λ (p : Pred). (p.table == l.change.table) && hits_pred (earlier l.number l.undo) l.change p) (drop l.at l.preds) ≡ list_any (λ (p : Pred). (p.table == l.change.table) && hits_pred (earlier l.number l.undo) l.change p) l.preds
