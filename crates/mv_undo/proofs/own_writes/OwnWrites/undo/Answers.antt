use Rattle.std.proofs.Common.{List, sym, ap, subst, ◌∙◌}
use Rattle.mv_values.specs.declared.patch.Write.{Write}
use Rattle.mv_undo.specs.Owned.{owned_by}
use Rattle.mv_undo.specs.Indexed.{IsIndexOf}
use Rattle.mv_undo.proofs.own_writes.OwnWrites.undo.Goals as goal

pub of-requires : goal.of-requires
of-requires c = subst (λ (ws : List Write). IsIndexOf c.self.inside.index ws) (sym c.as_slice.ensures) c.self.invariant

pub returns : goal.returns
returns c = c.of.ensures ∙ (ap (λ (ws : List Write). owned_by c.self.inside.index.places ws) c.as_slice.ensures ∙ c.self.view_is)
