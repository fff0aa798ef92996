use Rattle.std.proofs.Common.{◌≡◌, map, drop}
use Rattle.mv_lawful.specs.Lawful.{first_open}
use Rattle.mv_audit.specs.Schedules.{live_of}
use Rattle.mv_audit.proofs.judge.first_open.Given as goal

abbrev pub invariant-loop-call : goal.invariant-loop-call
invariant-loop-call l = first_open l.call (map live_of (drop l.call l.calls)) ≡ first_open 0 (map live_of l.calls)
