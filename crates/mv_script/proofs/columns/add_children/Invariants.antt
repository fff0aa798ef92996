use Rattle.std.proofs.Common.{◌≡◌, ◌<◌, ℕ}
use Rattle.std.specs.Prelude.{◌||◌, ◌&&◌, nat_lt}
use Rattle.mv_values.specs.Testing.{are_tested}
use Rattle.mv_script.specs.Columns.{is_for_children}
use Rattle.mv_script.proofs.columns.add_children.Given as goal

abbrev pub invariant-loop-table : goal.invariant-loop-table
invariant-loop-table l = (t c : ℕ) → c < 32 → are_tested l.all t c ≡ (are_tested l.fn.all t c || (nat_lt t l.table && is_for_children l.graph t c))
