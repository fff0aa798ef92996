use Rattle.std.proofs.Common.{◌≡◌, ◌<◌, ◌≤◌, length, take, true, ap, sym, subst, ◌∙◌, arith}
use Rattle.std.specs.List.{list_all}
use Rattle.std.proofs.lemmas.List.{length-take-le}
use Rattle.mv_trace.specs.Bars.{AreOpen, has_ended}
use Rattle.mv_trace.proofs.Opening.{opened, next_event, seen_all, closed}
use Rattle.mv_trace.proofs.bars.bars_of.Goals as goal

pub loop-at-init : goal.loop-at-init
loop-at-init c = opened c.new-bars.result c.new-bars.ensures

pub loop-at-preserved : goal.loop-at-preserved
loop-at-preserved c =
    let events = c.args.events.now in
    let at = c.loop-at.at in
    let within : at < length events = c.loop-at-test.true in
    let count : length (take at events) ≡ at = length-take-le at events (omega (arith, within)) in
    next_event events at _ c.add_event.new.bars within (c.in_ok-add_event.ensures (take at events) count c.loop-at.invariant)

pub returns-then-have_ended-clause-bars : goal.returns-then-have_ended-clause-bars
returns-then-have_ended-clause-bars c =
    let events = c.args.events.now in
    let bars = c.loop-at.bars in
    let all : list_all has_ended bars ≡ true = ap (list_all has_ended) (sym c.as_slice.ensures) ∙ (sym c.have_ended.ensures ∙ c.if-have_ended.true) in
    let seen : length events ≤ c.loop-at.at = omega (arith, c.loop-at-test.false) in
    closed events bars all (seen_all events c.loop-at.at bars seen c.loop-at.invariant)
