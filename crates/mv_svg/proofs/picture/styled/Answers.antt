use Rattle.std.proofs.Common.{◌≡◌, ◌++◌, [], codes, refl, sym, ap, subst, ◌∙◌}
use Rattle.std.proofs.Math.Logic.{∥∥₁_map}
use Rattle.mv_svg.specs.Escapes.{escaped}
use Rattle.mv_svg.specs.Shapes.{element}
use Rattle.mv_svg.specs.Xml.{IsContent}
use Rattle.mv_svg.proofs.Pieces.{anew, styled}
use Rattle.mv_svg.proofs.picture.styled.Goals as goal

pub returns-clause-styled : goal.returns-clause-styled
returns-clause-styled c =
    let words = escaped c.args.style.now in
    let drawn = c.text.result.now in
    let sheet : c.as_slice.result.now ≡ words = anew c.as_slice.result.now c.write_escaped.new.text c.new-sheet.result words c.as_slice.ensures c.in_ok-write_escaped.ensures c.new-sheet.ensures in
    let made = anew c.write_element.new.text c.write_element.new.text c.new-inner.result (element (codes "style") [] c.as_slice.result.now) refl c.in_ok-write_element.ensures c.new-inner.ensures in
    let begun : c.write_element.new.text ≡ element (codes "style") [] words = made ∙ ap (element (codes "style") []) sheet in
    (c.args.style.now, c.in_ok-append.ensures.ok ∙ (ap (λ t. t ++ drawn) begun ∙ ap (λ d. element (codes "style") [] words ++ d) c.text.ensures.text))

pub returns-clause-well : goal.returns-clause-well
returns-clause-well c =
    let whole = returns-clause-styled c in
    ∥∥₁_map c.args.drawn.now.well_formed (λ h. subst IsContent (sym whole.1) (styled whole.0 c.args.drawn.now.text h))
