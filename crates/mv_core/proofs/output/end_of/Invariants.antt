use Rattle.std.proofs.Common.{◌≡◌, drop}
use Rattle.mv_record.specs.Runs.{end_in}
use Rattle.mv_core.proofs.output.end_of.Given as goal

abbrev pub invariant-loop-number : goal.invariant-loop-number
invariant-loop-number l = end_in (drop l.number l.records) ≡ end_in l.records
