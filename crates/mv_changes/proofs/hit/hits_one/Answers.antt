use Rattle.std.proofs.Common.{◌≤◌, subst}
use Rattle.std.specs.Prelude.{◌==◌, ◌&&◌}
use Rattle.mv_values.specs.declared.pred.Pred.{Pred}
use Rattle.mv_undo.specs.Owning.{earlier}
use Rattle.mv_changes.specs.Hitting.{hits_pred}
use Rattle.mv_changes.proofs.Trying.{any_here, any_left, any_none}
use Rattle.mv_changes.proofs.hit.hits_one.Goals as goal

pub returns-then-hits_table : goal.returns-then-hits_table
returns-then-hits_table c =
    any_here (λ (p : Pred). (p.table == c.args.change.now.table) && hits_pred (earlier c.args.number c.args.undo.now) c.args.change.now p) c.args.preds.now c.loop-at.at c.get.result c.hits_table.result c.get.ensures c.hits_table.ensures
    c.if-hits_table.true c.loop-at.invariant

pub loop-at-preserved : goal.loop-at-preserved
loop-at-preserved c =
    any_left (λ (p : Pred). (p.table == c.args.change.now.table) && hits_pred (earlier c.args.number c.args.undo.now) c.args.change.now p) c.args.preds.now c.loop-at.at c.get.result c.hits_table.result c.get.ensures c.hits_table.ensures
    c.if-hits_table.false c.loop-at.invariant

pub returns : goal.returns
returns c =
    any_none (λ (p : Pred). (p.table == c.args.change.now.table) && hits_pred (earlier c.args.number c.args.undo.now) c.args.change.now p) c.args.preds.now c.loop-at.at
    (subst (λ n. n ≤ c.loop-at.at) c.len-at-end.ensures c.loop-at-test.false) c.loop-at.invariant
