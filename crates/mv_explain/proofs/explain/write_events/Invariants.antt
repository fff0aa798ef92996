use Rattle.std.proofs.Common.{◌≡◌}
use Rattle.mv_explain.proofs.Telling.{IsTold}
use Rattle.mv_explain.proofs.explain.write_events.Given as goal

abbrev pub invariant-loop-event : goal.invariant-loop-event
invariant-loop-event l = record { told : IsTold l.tables l.events l.n l.fn.core.book l.core.book l.fn.text l.text; at : l.n ≡ l.event-index }
