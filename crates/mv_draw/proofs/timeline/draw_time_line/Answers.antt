use Rattle.std.proofs.Common.{length}
use Rattle.mv_draw.proofs.Showing.{in_groups, shows}
use Rattle.mv_draw.proofs.timeline.draw_time_line.Goals as goal

pub returns-clause-rows : goal.returns-clause-rows
returns-clause-rows c =
    let rows = c.in_ok-rows.rows.text in
    let drawn = c.add_group-2.new.self.text in
    let holds = in_groups c.add_grid.new.content.text c.add_group.new.self.text drawn rows c.in_ok-marks.marks.text c.in_ok-add_group.ensures.ok c.in_ok-add_group-2.ensures.ok in
    shows c.picture.result (length c.args.calls.now) c.width.result c.height.result drawn rows c.in_ok-rows.ensures holds c.picture.ensures.picture
