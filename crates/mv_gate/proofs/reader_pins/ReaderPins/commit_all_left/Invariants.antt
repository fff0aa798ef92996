use Rattle.std.proofs.Common.{◌<◌, ◌≤◌, ℕ, length}
use Rattle.mv_gate.specs.Gates.{IsDone, GoesOn}
use Rattle.mv_gate.specs.Readers.{AreReaders}
use Rattle.mv_gate.proofs.reader_pins.ReaderPins.commit_all_left.Given as goal

abbrev pub invariant-loop-call : goal.invariant-loop-call
invariant-loop-call g l = record {
  kept : GoesOn l.initial.scheduler l.scheduler;
  begun : l.call ≤ length l.scheduler.schedule.calls;
  done : (d : ℕ) → d < l.call → IsDone l.scheduler.schedule d;
  readers : AreReaders g.N.Making.script g.N.Naming.word l.self.readers l.self.pins.items l.scheduler.schedule;
}
