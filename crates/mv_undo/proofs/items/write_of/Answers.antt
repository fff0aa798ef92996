use Rattle.std.proofs.Common.{◌<◌, length, sym, ap, subst, ◌∙◌}
use Rattle.mv_undo.specs.declared.place.Place.{Place}
use Rattle.mv_undo.specs.Owned.{Owned, no_place, write_in}
use Rattle.mv_undo.proofs.Placing.{owned_there}
use Rattle.mv_undo.proofs.items.write_of.Goals as goal

pub write_at-requires : goal.write_at-requires
write_at-requires c = subst (λ (p : Place). p.at < length c.args.writes.now) (sym c.place_at.ensures) (c.requires.within c.args.place no_place c.requires.place)

pub returns : goal.returns
returns c =
    c.write_at.ensures
    ∙ (ap (λ (p : Place). write_in c.args.writes.now p.at) c.place_at.ensures ∙ ap (λ (o : Owned). o.write) (sym (owned_there c.args.writes.now c.args.places.now c.args.place no_place c.requires.place)))
