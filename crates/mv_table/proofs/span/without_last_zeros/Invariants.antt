use Rattle.std.proofs.Common.{◌≡◌, ◌<◌, ◌≤◌, ◌-◌, slice_index_or}
use Rattle.std.specs.Prelude.{pos}
use Rattle.mv_values.specs.declared.value.Value.TheVariants.{Int}
use Rattle.mv_table.proofs.span.without_last_zeros.Given as goal

abbrev pub invariant-loop-i : goal.invariant-loop-i
invariant-loop-i l = record { within : l.keep ≤ l.i; last : 0 < l.keep → slice_index_or l.value-items (l.keep - 1) (Int (pos 0)) ≡ Int (pos 0) → ⊥ }
