use Rattle.std.proofs.Common.{◌≡◌, ◌++◌, OnOk, [], codes, refl, sym, ap, subst, ◌∙◌}
use Rattle.std.proofs.Math.Logic.{∥∥₁_map}
use Rattle.mv_svg.specs.Shapes.{element}
use Rattle.mv_svg.specs.Xml.{IsContent}
use Rattle.mv_svg.proofs.Pieces.{anew, grew_by, bare_is}
use Rattle.mv_svg.proofs.content.Content.add_group.Goals as goal

pub invariant_of-self : goal.invariant_of-self
invariant_of-self c =
    let inner = c.as_slice.result.now in
    let held : ∥ IsContent inner ∥₁ = ∥∥₁_map c.args.inner.now.well_formed (subst IsContent (sym c.as_slice.ensures)) in
    let made = anew c.as_slice-2.result.now c.write_element.new.text c.new-piece.result (element (codes "g") [] inner) c.as_slice-2.ensures c.in_ok-write_element.ensures c.new-piece.ensures in
    let piece : ∥ IsContent c.as_slice-2.result.now ∥₁ = ∥∥₁_map held (λ h. subst IsContent (sym made) (bare_is (codes "g") inner refl h)) in
    record { well_formed = grew_by c.append.result c.args.self.now.text c.append.new.self c.as_slice-2.result.now c.append.ensures.ok c.append.ensures.err piece c.args.self.now.well_formed }

pub returns-clause-ok : goal.returns-clause-ok
returns-clause-ok c =
    let inner = c.as_slice.result.now in
    let made = anew c.as_slice-2.result.now c.write_element.new.text c.new-piece.result (element (codes "g") [] inner) c.as_slice-2.ensures c.in_ok-write_element.ensures c.new-piece.ensures in
    let piece : c.as_slice-2.result.now ≡ element (codes "g") [] c.args.inner.now.text = made ∙ ap (element (codes "g") []) c.as_slice.ensures in
    subst (λ piece. OnOk c.append.result (c.append.new.self ≡ c.args.self.now.text ++ piece)) piece c.append.ensures.ok
