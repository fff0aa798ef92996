use Rattle.std.proofs.Common.{◌≡◌, map, take}
use Rattle.mv_values.specs.declared.value.Value.TheVariants.{Int}
use Rattle.mv_values.proofs.numbers.values_of.Given as goal

abbrev pub invariant-loop-number : goal.invariant-loop-number
invariant-loop-number l = l.values ≡ map Int (take l.number-index l.numbers)
