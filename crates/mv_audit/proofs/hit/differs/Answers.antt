use Rattle.std.proofs.Common.{not, sym, ◌∙◌}
use Rattle.std.specs.Prelude.{◌&&◌}
use Rattle.mv_values.specs.Preds.{admits, sees}
use Rattle.mv_history.specs.Changes.{is_same}
use Rattle.mv_history.specs.Hits.{has_written, is_alike}
use Rattle.mv_audit.proofs.Hitting.{hit_unseen, hit_seen}
use Rattle.mv_audit.proofs.hit.differs.Goals as goal

pub returns-then-sees_same : goal.returns-then-sees_same
returns-then-sees_same c =
    let p = c.args.pred.now in
    let change = c.args.change.now in
    c.hits_unseen.ensures
    ∙ hit_unseen (has_written c.args.before.now change) (admits p change.key && not (is_alike p change.before change.after)) (is_same (sees p change.before) (sees p change.after)) (sym c.sees_same.ensures ∙ c.if-sees_same.true)

pub returns-else-sees_same : goal.returns-else-sees_same
returns-else-sees_same c =
    let p = c.args.pred.now in
    let change = c.args.change.now in
    c.hits_seen.ensures
    ∙ hit_seen (has_written c.args.before.now change) (admits p change.key && not (is_alike p change.before change.after)) (is_same (sees p change.before) (sees p change.after)) (sym c.sees_same.ensures ∙ c.if-sees_same.false)
