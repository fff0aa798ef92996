use Rattle.std.proofs.Common.{◌≡◌}
use Rattle.mv_values.specs.Counts.{first_numbers}
use Rattle.mv_top.proofs.serial.numbers_below.Given as goal

abbrev pub invariant-loop-number : goal.invariant-loop-number
invariant-loop-number l = l.numbers ≡ first_numbers l.number
