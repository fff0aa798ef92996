use Rattle.std.proofs.Common.{◌≡◌, ◌++◌, drop}
use Rattle.mv_record.specs.Runs.{lines_in}
use Rattle.mv_core.proofs.output.lines_of.Given as goal

abbrev pub invariant-loop-number : goal.invariant-loop-number
invariant-loop-number l = l.lines ++ lines_in (drop l.number l.records) ≡ lines_in l.records
