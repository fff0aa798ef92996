use Rattle.std.proofs.Common.{◌≡◌, ◌≤◌, length, arith, ◌∙◌}
use Rattle.std.proofs.lemmas.List.{take_all}
use Rattle.mv_trace.proofs.Keeping.{more_bars}
use Rattle.mv_trace.proofs.calls.calls_of.Goals as goal

pub loop-number-preserved : goal.loop-number-preserved
loop-number-preserved c =
    more_bars c.args.bars.now c.loop-number.number c.loop-number.calls c.push.new.self c.begun.result _
    c.in_ok-push.ensures.ok c.loop-number-test.true c.begun.ensures c.loop-number.invariant

pub loop-before-init : goal.loop-before-init
loop-before-init c =
    let bars = c.args.bars.now in
    let all : length bars ≤ c.loop-number.number = omega (arith, c.loop-number-test.false) in
    c.loop-number.invariant ∙ take_all c.loop-number.number bars all

pub loop-before-preserved : goal.loop-before-preserved
loop-before-preserved c = c.in_ok-note_line.ensures ∙ c.loop-before.invariant
