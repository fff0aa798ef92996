use Rattle.std.proofs.Common.{List, length, sym, ap, ◌∙◌}
use Rattle.mv_undo.specs.declared.place.Place.{Place}
use Rattle.mv_undo.proofs.Placing.{owned_length}
use Rattle.mv_undo.proofs.own_writes.OwnWrites.len.Goals as goal

pub returns : goal.returns
returns c =
    ap (λ (ps : List Place). length ps) c.places.ensures ∙ (sym (owned_length c.self.inside.writes c.self.inside.index.places) ∙ ap (λ os. length os) c.self.view_is)
