use Rattle.std.proofs.Common.{Option, Ok, Some, subst}
use Rattle.std.specs.Prelude.{IfSome}
use Rattle.mv_core.specs.Books.{Booked}
use Rattle.mv_gate.specs.declared.pinned.PinnedBegun.{PinnedBegun}
use Rattle.mv_gate.specs.Gates.{HandsOut}
use Rattle.mv_gate.proofs.Ending.{keeps_next}
use Rattle.mv_gate.proofs.reader_pins.ReaderPins.begin_left.Goals as goal

pub returns-clause-kept : goal.returns-clause-kept
returns-clause-kept g c =
    let some = subst (λ (o : Option (PinnedBegun g.row.N.Denot g.N.Making g.N.Naming)). IfSome o (λ it. HandsOut (Ok (Some it.begun)) c.pass_for-seen.new.self c.begin.new.scheduler)) c.in-Some-2.is c.in_ok-begun.ensures.begun in
    keeps_next (Ok (Some c.in-Some-2.begun.begun)) c.args.scheduler.now c.begin.new.scheduler (subst (λ (b : Booked). HandsOut (Ok (Some c.in-Some-2.begun.begun)) b c.begin.new.scheduler) c.pass_for-seen.ensures.same some)
