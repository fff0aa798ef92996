use Rattle.std.proofs.Common.{◌≡◌, [], codes, refl, sym, ap, subst, ◌∙◌}
use Rattle.mv_svg.specs.Escapes.{escaped}
use Rattle.mv_svg.specs.Shapes.{element}
use Rattle.mv_svg.specs.Xml.{IsContent}
use Rattle.mv_svg.proofs.Pieces.{anew, title_is}
use Rattle.mv_svg.proofs.content.Content.titled.Goals as goal

pub returns : goal.returns
returns c =
    let words = escaped c.args.words.now in
    let inner : c.as_slice.result.now ≡ words = anew c.as_slice.result.now c.write_escaped.new.text c.new-inner.result words c.as_slice.ensures c.in_ok-write_escaped.ensures c.new-inner.ensures in
    let made = anew c.write_element.new.text c.write_element.new.text c.new-text.result (element (codes "title") [] c.as_slice.result.now) refl c.in_ok-write_element.ensures c.new-text.ensures in
    made ∙ ap (element (codes "title") []) inner

pub invariant_of-result : goal.invariant_of-result
invariant_of-result c =
    let words = escaped c.args.words.now in
    let inner : c.as_slice.result.now ≡ words = anew c.as_slice.result.now c.write_escaped.new.text c.new-inner.result words c.as_slice.ensures c.in_ok-write_escaped.ensures c.new-inner.ensures in
    let made = anew c.write_element.new.text c.write_element.new.text c.new-text.result (element (codes "title") [] c.as_slice.result.now) refl c.in_ok-write_element.ensures c.new-text.ensures in
    record { well_formed = ∣ subst IsContent (sym (made ∙ ap (element (codes "title") []) inner)) (title_is c.args.words.now) ∣₁ }
