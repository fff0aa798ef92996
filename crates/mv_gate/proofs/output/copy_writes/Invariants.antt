use Rattle.std.proofs.Common.{◌≡◌, take}
use Rattle.mv_record.specs.Runs.{writes_in}
use Rattle.mv_gate.proofs.output.copy_writes.Given as goal

abbrev pub invariant-loop-number : goal.invariant-loop-number
invariant-loop-number l = l.writes ≡ writes_in (take l.number l.records)
