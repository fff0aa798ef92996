use Rattle.std.proofs.Common.{◌≡◌}
use Rattle.mv_core.proofs.Driving.{IsDriven}
use Rattle.mv_core.proofs.drive.drive.Given as goal

abbrev pub invariant-loop-event : goal.invariant-loop-event
invariant-loop-event g l = record { stands : IsDriven l.events l.n (g.E.Events.booked l.fn.history) (g.E.Events.booked l.history); at : l.n ≡ l.event-index }
