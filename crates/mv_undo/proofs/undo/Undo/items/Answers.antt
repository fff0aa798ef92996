use Rattle.std.proofs.Common.{ap, ◌∙◌}
use Rattle.mv_undo.specs.Owned.{owned_by}
use Rattle.mv_undo.proofs.undo.Undo.items.Goals as goal

pub of-requires : goal.of-requires
of-requires c = rw c.places.ensures c.self.invariant.within

pub returns : goal.returns
returns c = c.of.ensures ∙ (ap (λ ps. owned_by ps c.self.inside.writes.now) c.places.ensures ∙ c.self.view_is)
