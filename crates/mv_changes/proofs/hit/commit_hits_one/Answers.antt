use Rattle.std.proofs.Common.{◌≤◌, subst}
use Rattle.std.specs.Prelude.{◌==◌}
use Rattle.std.specs.List.{list_any, filter}
use Rattle.mv_values.specs.declared.pred.Pred.{Pred}
use Rattle.mv_history.specs.declared.change.Change.{Change}
use Rattle.mv_undo.specs.Owning.{earlier}
use Rattle.mv_changes.specs.Hitting.{hits_admitted}
use Rattle.mv_changes.proofs.Trying.{any_here, any_left, any_none}
use Rattle.mv_changes.proofs.hit.commit_hits_one.Goals as goal

pub returns-then-commit_hits : goal.returns-then-commit_hits
returns-then-commit_hits c =
    any_here (λ (p : Pred). list_any (λ x. hits_admitted (earlier c.args.number c.args.undo.now) x p) (filter (λ (x : Change). x.table == p.table) c.args.changes.now)) c.args.preds.now c.loop-at.at c.get.result c.commit_hits.result
    c.get.ensures c.commit_hits.ensures c.if-commit_hits.true c.loop-at.invariant

pub loop-at-preserved : goal.loop-at-preserved
loop-at-preserved c =
    any_left (λ (p : Pred). list_any (λ x. hits_admitted (earlier c.args.number c.args.undo.now) x p) (filter (λ (x : Change). x.table == p.table) c.args.changes.now)) c.args.preds.now c.loop-at.at c.get.result c.commit_hits.result
    c.get.ensures c.commit_hits.ensures c.if-commit_hits.false c.loop-at.invariant

pub returns : goal.returns
returns c =
    any_none (λ (p : Pred). list_any (λ x. hits_admitted (earlier c.args.number c.args.undo.now) x p) (filter (λ (x : Change). x.table == p.table) c.args.changes.now)) c.args.preds.now c.loop-at.at
    (subst (λ n. n ≤ c.loop-at.at) c.len-at-end.ensures c.loop-at-test.false) c.loop-at.invariant
