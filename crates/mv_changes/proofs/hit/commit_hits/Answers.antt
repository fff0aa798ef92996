use Rattle.std.proofs.Common.{ap, ◌∙◌}
use Rattle.std.specs.Prelude.{◌==◌}
use Rattle.std.specs.List.{list_any, filter}
use Rattle.mv_history.specs.declared.change.Change.{Change}
use Rattle.mv_undo.specs.Owning.{earlier}
use Rattle.mv_changes.specs.Hitting.{hits_admitted}
use Rattle.mv_changes.proofs.hit.commit_hits.Goals as goal

pub returns : goal.returns
returns c =
    c.one_hits.ensures
    ∙ ap (list_any (λ x. hits_admitted (earlier c.args.number c.args.undo.now) x c.args.pred.now)) (c.of_table.ensures ∙ ap (λ t. filter (λ (x : Change). x.table == t) c.args.changes.now) c.table.ensures)
