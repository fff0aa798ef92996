use Rattle.std.proofs.Common.{◌≡◌, ◌∷◌, take}
use Rattle.mv_values.specs.declared.value.Value.TheVariants.{Int}
use Rattle.mv_values.proofs.key.key_after.Given as goal

abbrev pub invariant-loop-at : goal.invariant-loop-at
invariant-loop-at l = l.longer ≡ Int l.number ∷ take l.at l.key
