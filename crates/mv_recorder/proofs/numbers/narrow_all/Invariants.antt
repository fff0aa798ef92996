use Rattle.std.proofs.Common.{◌≡◌, ◌++◌, drop}
use Rattle.mv_recorder.proofs.numbers.narrow_all.Given as goal

abbrev pub invariant-loop-number : goal.invariant-loop-number
invariant-loop-number l = l.all ++ drop l.number-index l.numbers ≡ l.numbers
