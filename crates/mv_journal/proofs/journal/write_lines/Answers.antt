use Rattle.std.proofs.Common.{◌<◌, ◌≤◌, sym, rules, length, take}
use Rattle.mv_journal.specs.declared.event.Event.TheVariants.{B}
use Rattle.mv_journal.specs.Events.{IsInRange}
use Rattle.mv_journal.proofs.Lines.{back, written_on}
use Rattle.std.proofs.lemmas.List.{take_all}
use Rattle.std.proofs.lemmas.List.Elements.{All-more, All-same}
use Rattle.mv_journal.proofs.journal.write_lines.Goals as goal

pub loop-event-preserved : goal.loop-event-preserved
loop-event-preserved c =
    let within : c.loop-event.event-index < length c.args.events.now = search rules in (
      written_on c.args.events.now c.loop-event.event-index (B 0) c.args.text.now c.loop-event.text c.write_event.new.text c.push.new.self within c.loop-event.invariant.0 c.in_ok-write_event.ensures.ok c.in_ok-push.ensures.ok,
      All-more IsInRange c.args.events.now c.loop-event.event-index (B 0) within c.loop-event.invariant.1 c.write_event.ensures.range,
    )

pub returns-clause-back : goal.returns-clause-back
returns-clause-back c =
    let all : length c.args.events.now ≤ c.loop-event.event-index = search rules in
    back c.args.events.now (All-same IsInRange c.args.events.now (take c.loop-event.event-index c.args.events.now) (sym (take_all c.loop-event.event-index c.args.events.now all)) c.loop-event.invariant.1)
