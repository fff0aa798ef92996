use Rattle.std.proofs.Common.{◌≡◌, sym, ap, ◌∙◌, length, arith}
use Rattle.std.specs.Option.{is_some}
use Rattle.mv_table.proofs.Scanning.{unfixed}
use Rattle.mv_table.proofs.Spanning.{given_more}
use Rattle.mv_table.proofs.Whole.{given_whole}
use Rattle.mv_table.proofs.span.whole_key.Goals as goal

pub loop-place-preserved : goal.loop-place-preserved
loop-place-preserved c =
    let more =
    given_more c.args.tests.now c.in-Some.test.now c.loop-place.key c.push.new.self c.in_ok-copy-in-Some.field-0 c.loop-place.place c.loop-place.invariant.size c.loop-place.invariant.agree
    c.in-Some.ensures.side c.in-Some.ensures.holds c.in_ok-copy-in-Some.ensures c.in_ok-push-in-Some.ensures.ok in
    record { size = more.0; agree = more.1 }

pub returns-in-None-clause-given : goal.returns-in-None-clause-given
returns-in-None-clause-given c = sym (unfixed c.args.tests.now c.loop-place.place c.args.len c.loop-place-test.true (sym c.test_at.ensures.there ∙ ap is_some c.in-None.is))

pub returns-clause-only : goal.returns-clause-only
returns-clause-only c =
    let end' : c.args.len ≡ length c.loop-place.key = omega (arith, c.loop-place-test.false, c.loop-place.auto, c.loop-place.invariant.size) in
    given_whole c.args.tests.now c.args.len c.loop-place.key end' c.loop-place.invariant.agree
