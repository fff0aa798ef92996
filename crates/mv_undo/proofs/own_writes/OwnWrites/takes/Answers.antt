use Rattle.std.proofs.Common.{◌≤◌, All, subst}
use Rattle.mv_undo.specs.declared.place.Place.{Place}
use Rattle.mv_undo.specs.Owned.{Owned}
use Rattle.mv_undo.proofs.Placing.{owned_numbers}
use Rattle.mv_undo.proofs.own_writes.OwnWrites.takes.Goals as goal

pub returns : goal.returns
returns c = λ so.
    subst (All (λ (o : Owned). o.number ≤ c.args.number)) c.self.view_is
    (owned_numbers c.args.number c.self.inside.writes c.self.inside.index.places (subst (All (λ (p : Place). p.number ≤ c.args.number)) c.places.ensures (c.are_up_to.ensures so)))
