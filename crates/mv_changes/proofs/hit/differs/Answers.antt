use Rattle.std.proofs.Common.{sym, ◌∙◌}
use Rattle.mv_undo.specs.Owning.{earlier}
use Rattle.mv_changes.proofs.Hitting.{unseen_hits, seen_hits}
use Rattle.mv_changes.proofs.hit.differs.Goals as goal

pub returns-then-sees_same : goal.returns-then-sees_same
returns-then-sees_same c = c.hits_unseen.ensures ∙ sym (unseen_hits (earlier c.args.number c.args.undo.now) c.args.change.now c.args.pred.now (sym c.sees_same.ensures ∙ c.if-sees_same.true))

pub returns-else-sees_same : goal.returns-else-sees_same
returns-else-sees_same c = c.hits_seen.ensures ∙ sym (seen_hits (earlier c.args.number c.args.undo.now) c.args.change.now c.args.pred.now (sym c.sees_same.ensures ∙ c.if-sees_same.false))
