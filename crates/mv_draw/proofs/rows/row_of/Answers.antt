use Rattle.std.proofs.Common.{[], codes, sym, subst}
use Rattle.mv_svg.specs.Escapes.{escaped}
use Rattle.mv_svg.specs.Shapes.{element}
use Rattle.mv_draw.specs.Rows.{IsTitle}
use Rattle.mv_draw.proofs.Showing.{rowed}
use Rattle.mv_draw.proofs.rows.row_of.Goals as goal

pub returns : goal.returns
returns c =
    let title = c.as_slice.result.now in
    let front = element (codes "title") [] (escaped title) in
    let rest = element (codes "g") [] c.in_ok-rest.rest.text in
    record {
      title = title;
      look = c.look_of.result;
      bar = c.bar_of.result;
      rest = rest;
      names = subst (IsTitle c.args.number) (sym c.as_slice.ensures) c.in_ok-title.ensures;
      is_rect = c.bar_of.ensures;
      row_is = rowed c.in_ok-row.row.text c.add_shape.new.self.text c.add_group.new.self.text front c.look_of.result c.bar_of.result c.new-none.result.text rest c.in_ok-row.ensures c.in_ok-add_shape.ensures.ok c.new-none.ensures c.in_ok-add_group.ensures.ok;
    }
