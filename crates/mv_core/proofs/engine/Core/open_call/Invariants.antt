use Rattle.std.proofs.Common.{◌≡◌, drop}
use Rattle.mv_lawful.specs.Lawful.{first_open}
use Rattle.mv_core.proofs.engine.Core.open_call.Given as goal

abbrev pub invariant-loop-call : goal.invariant-loop-call
invariant-loop-call l = first_open 0 l.self.book.schedule.calls ≡ first_open l.call (drop l.call l.self.book.schedule.calls)
