use Rattle.std.proofs.Common.{refl, sym, ap, subst, ◌∙◌}
use Rattle.std.proofs.Math.Logic.{∥∥₁_map}
use Rattle.mv_svg.specs.Pictures.{picture_text}
use Rattle.mv_svg.specs.Xml.{IsContent, IsDocument}
use Rattle.mv_svg.proofs.Pieces.{anew, picture_is}
use Rattle.mv_svg.proofs.picture.picture.Goals as goal

pub returns-clause-document : goal.returns-clause-document
returns-clause-document c =
    let inner = c.as_slice.result.now in
    let made = anew c.write_picture.new.text c.write_picture.new.text c.new-text.result (picture_text c.args.width c.args.height inner) refl c.in_ok-write_picture.ensures c.new-text.ensures in
    ∥∥₁_map c.in_ok-inner.ensures.well (λ h. subst IsDocument (sym made) (picture_is c.args.width c.args.height inner (subst IsContent (sym c.as_slice.ensures) h)))

pub returns-clause-picture : goal.returns-clause-picture
returns-clause-picture c =
    let inner = c.as_slice.result.now in
    let made = anew c.write_picture.new.text c.write_picture.new.text c.new-text.result (picture_text c.args.width c.args.height inner) refl c.in_ok-write_picture.ensures c.new-text.ensures in
    let made_of = c.in_ok-inner.ensures.styled in
    (made_of.0, made ∙ ap (picture_text c.args.width c.args.height) (c.as_slice.ensures ∙ made_of.1))
