use Rattle.mv_draw.proofs.Showing.{titled}
use Rattle.mv_draw.proofs.rows.title_of.Goals as goal

pub returns : goal.returns
returns c =
    let story = c.as_slice.result.now in (
      story,
      titled c.args.number c.new-title.result c.add_count.new.text c.push.new.self c.append.new.self story c.new-title.ensures c.in_ok-add_count.ensures c.in_ok-push.ensures.ok c.in_ok-append.ensures.ok,
    )
