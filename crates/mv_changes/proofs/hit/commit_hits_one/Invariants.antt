use Rattle.std.proofs.Common.{◌≡◌, drop}
use Rattle.std.specs.Prelude.{◌==◌}
use Rattle.std.specs.List.{list_any, filter}
use Rattle.mv_values.specs.declared.pred.Pred.{Pred}
use Rattle.mv_history.specs.declared.change.Change.{Change}
use Rattle.mv_undo.specs.Owning.{earlier}
use Rattle.mv_changes.specs.Hitting.{hits_admitted}
use Rattle.mv_changes.proofs.hit.commit_hits_one.Given as goal

abbrev pub invariant-loop-at : goal.invariant-loop-at
invariant-loop-at l =
    list_any (λ (p : Pred). list_any (λ x. hits_admitted (earlier l.number l.undo) x p) (filter (λ (x : Change). x.table == p.table) l.changes)) (drop l.at l.preds) ≡ list_any (λ (p : Pred). list_any (λ x. hits_admitted (earlier l.number l.undo) x p) (filter (λ (x : Change). x.table == p.table) l.changes)) l.preds
