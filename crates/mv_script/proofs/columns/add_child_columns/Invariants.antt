use Rattle.std.proofs.Common.{◌≡◌, ◌==◌, ℕ}
use Rattle.std.specs.Prelude.{◌||◌, ◌&&◌, nat_lt}
use Rattle.mv_values.specs.Testing.{are_tested}
use Rattle.mv_script.specs.Columns.{is_for_children}
use Rattle.mv_script.proofs.columns.add_child_columns.Given as goal

abbrev pub invariant-loop-column : goal.invariant-loop-column
invariant-loop-column l = (t c : ℕ) → are_tested l.all t c ≡ (are_tested l.fn.all t c || (((l.table == t) && nat_lt c l.column) && is_for_children l.graph t c))
