use Rattle.std.proofs.Common.{◌≡◌, ℕ, take}
use Rattle.std.specs.Prelude.{◌||◌}
use Rattle.std.specs.List.{list_any}
use Rattle.mv_values.specs.Testing.{are_tested}
use Rattle.mv_script.specs.Columns.{is_indexed_by}
use Rattle.mv_script.proofs.columns.add_all.Given as goal

abbrev pub invariant-loop-column : goal.invariant-loop-column
invariant-loop-column l = (t c : ℕ) → are_tested l.all t c ≡ (are_tested l.fn.all t c || list_any (is_indexed_by l.tables t c) (take l.column-index l.columns))
