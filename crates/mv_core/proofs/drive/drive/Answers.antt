use Rattle.std.proofs.Common.{get_or, arith}
use Rattle.std.proofs.lemmas.Result.{err_from_is_err_and}
use Rattle.mv_journal.specs.declared.event.Event.TheVariants.{B}
use Rattle.mv_core.proofs.Driving.{stands_more, stops_line, read_at}
use Rattle.mv_core.proofs.drive.drive.Goals as goal

pub loop-event-preserved : goal.loop-event-preserved
loop-event-preserved g c =
    let at = c.loop-event.invariant.at in
    let within = c.loop-event-test.true in
    record {
      stands = stands_more c.args.events.now c.loop-event.n (get_or c.args.events.now c.loop-event.event-index (B 0)) (g.E.Events.booked c.args.history.now) (g.E.Events.booked c.loop-event.history) (g.E.Events.booked c.event.new.self)
          (omega (arith, at, within)) (read_at c.args.events.now c.loop-event.n c.loop-event.event-index (B 0) c.loop-event.invariant.at c.loop-event-test.true) c.loop-event.invariant.stands c.in_ok-event.ensures;
      at = omega (arith, at);
    }

pub returns-in_err-event : goal.returns-in_err-event
returns-in_err-event g c =
    let at = c.loop-event.invariant.at in
    let within = c.loop-event-test.true in
    let p = err_from_is_err_and c.from_residual.result c.from_residual.ensures.1 in
    rw (p.1, p.2) (stops_line c.args.events.now c.loop-event.n (get_or c.args.events.now c.loop-event.event-index (B 0)) (g.E.Events.booked c.args.history.now) (g.E.Events.booked c.loop-event.history) (g.E.Events.booked c.event.new.self) c.in_err-event.field-0.0
    (omega (arith, at, within)) (read_at c.args.events.now c.loop-event.n c.loop-event.event-index (B 0) c.loop-event.invariant.at c.loop-event-test.true) c.loop-event.invariant.stands c.in_err-event.ensures)
