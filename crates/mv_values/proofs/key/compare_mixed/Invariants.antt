use Rattle.std.proofs.Common.{◌≡◌, length, map}
use Rattle.mv_values.specs.declared.value.Value.TheVariants.{Int}
use Rattle.mv_values.specs.Order.{key_order}
use Rattle.mv_values.proofs.key.compare_mixed.Given as goal

abbrev pub invariant-loop-number : goal.invariant-loop-number
invariant-loop-number l = key_order (map Int l.ns) l.vs ≡ key_order (map Int l.numbers) l.values

abbrev pub decreases-loop-number : goal.decreases-loop-number
decreases-loop-number l = length l.ns
