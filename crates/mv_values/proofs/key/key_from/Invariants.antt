use Rattle.std.proofs.Common.{◌≡◌, take}
use Rattle.mv_values.proofs.key.key_from.Given as goal

abbrev pub invariant-loop-value : goal.invariant-loop-value
invariant-loop-value l = l.key ≡ take l.value-index l.values
