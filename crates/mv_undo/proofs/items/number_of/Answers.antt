use Rattle.std.proofs.Common.{sym, ap, ◌∙◌}
use Rattle.mv_undo.specs.declared.place.Place.{Place}
use Rattle.mv_undo.specs.Owned.{Owned, no_place}
use Rattle.mv_undo.proofs.Placing.{owned_there}
use Rattle.mv_undo.proofs.items.number_of.Goals as goal

pub returns : goal.returns
returns c = λ ws. ap (λ (o : Owned). o.number) (owned_there ws c.args.places.now c.args.place no_place c.requires) ∙ ap (λ (p : Place). p.number) (sym c.place_at.ensures)
