use Rattle.mv_table.proofs.Spanning.{given_more}
use Rattle.mv_table.proofs.span.first_values.Goals as goal

pub loop-place-preserved : goal.loop-place-preserved
loop-place-preserved c =
    let more =
    given_more c.args.tests.now c.in-Some.test.now c.loop-place.front c.push.new.self c.in_ok-copy-in-Some.field-0 c.loop-place.place c.loop-place.invariant.size c.loop-place.invariant.agree
    c.in-Some.ensures.side c.in-Some.ensures.holds c.in_ok-copy-in-Some.ensures c.in_ok-push-in-Some.ensures.ok in
    record { size = more.0; agree = more.1 }
