use Rattle.std.proofs.Common.{◌==◌, List, length, sym, ap, ◌∙◌}
use Rattle.mv_undo.specs.declared.place.Place.{Place}
use Rattle.mv_undo.proofs.Placing.{owned_length}
use Rattle.mv_undo.proofs.undo.Undo.is_empty.Goals as goal

pub returns : goal.returns
returns c =
    c.is_empty.ensures
    ∙ (ap (λ (ps : List Place). length ps == 0) c.places.ensures
    ∙ (ap (λ n. n == 0) (sym (owned_length c.self.inside.writes.now c.self.inside.index.now.places)) ∙ ap (λ os. length os == 0) c.self.view_is))
