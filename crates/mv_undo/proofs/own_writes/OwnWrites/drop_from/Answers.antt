use Rattle.std.proofs.Common.{List, sym, ap, subst, ◌∙◌}
use Rattle.mv_values.specs.declared.patch.Write.{Write}
use Rattle.mv_undo.specs.declared.place.Place.{Place}
use Rattle.mv_undo.specs.Owned.{owned_by}
use Rattle.mv_undo.specs.Owning.{before}
use Rattle.mv_undo.specs.Indexed.{IsIndexOf}
use Rattle.mv_undo.proofs.Placing.{owned_before}
use Rattle.mv_undo.proofs.own_writes.OwnWrites.drop_from.Goals as goal

pub drop_from-requires : goal.drop_from-requires
drop_from-requires c = subst (λ (ws : List Write). IsIndexOf c.self.inside.index ws) (sym c.as_slice.ensures) c.self.invariant

pub invariant_of-self : goal.invariant_of-self
invariant_of-self c = subst (λ (ws : List Write). IsIndexOf c.drop_from.new.self ws) c.as_slice.ensures c.drop_from.ensures.index

pub returns : goal.returns
returns c =
    ap (λ (ps : List Place). owned_by ps c.self.inside.writes) c.drop_from.ensures.places
    ∙ (owned_before c.args.number c.self.inside.writes c.self.inside.index.places ∙ ap (before c.args.number) c.self.view_is)
