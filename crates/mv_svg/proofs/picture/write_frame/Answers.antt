use Rattle.std.proofs.Common.{codes}
use Rattle.mv_svg.specs.Shapes.{attribute_text, number_attribute}
use Rattle.mv_svg.specs.Pictures.{frame_attributes, view_attribute}
use Rattle.mv_svg.proofs.Chains.{framed}
use Rattle.mv_svg.proofs.picture.write_frame.Goals as goal

pub returns : goal.returns
unfolding frame_attributes
returns c =
    framed c.write_view.result c.args.text.now c.append.new.self c.write_attribute.new.text c.write_attribute-2.new.text c.write_view.new.text
    (codes " xmlns=\"http://www.w3.org/2000/svg\" version=\"1.1\"") (attribute_text (number_attribute (codes "width") c.args.width)) (attribute_text (number_attribute (codes "height") c.args.height)) (attribute_text (view_attribute c.args.width c.args.height))
    c.in_ok-append.ensures.ok c.in_ok-write_attribute.ensures c.in_ok-write_attribute-2.ensures c.write_view.ensures
