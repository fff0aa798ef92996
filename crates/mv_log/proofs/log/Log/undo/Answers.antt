-- The writes of the records are those that the index finds.
use Rattle.std.proofs.Common.{List, sym, ap, subst, ◌∙◌}
use Rattle.mv_values.specs.declared.patch.Write.{Write}
use Rattle.mv_undo.specs.Owned.{owned_by}
use Rattle.mv_undo.specs.Indexed.{IsIndexOf}
use Rattle.mv_log.specs.Logged.{owned}
use Rattle.mv_log.proofs.log.Log.undo.Goals as goal

pub first-requires : goal.first-requires
first-requires c = c.self.invariant.from.writes

pub of-requires : goal.of-requires
of-requires c = subst (IsIndexOf c.self.inside.own) (sym c.first.ensures) c.self.invariant.own.index

pub returns : goal.returns
returns c = c.of.ensures ∙ (ap (λ (ws : List Write). owned_by c.self.inside.own.places ws) c.first.ensures ∙ (c.self.invariant.own.all ∙ ap owned c.self.view_is))
