use Rattle.std.proofs.Common.{◌≡◌, ◌<◌, ℕ, false, take}
use Rattle.std.specs.Prelude.{◌||◌}
use Rattle.std.specs.List.{list_any}
use Rattle.mv_values.specs.Testing.{are_tested}
use Rattle.mv_script.specs.Columns.{is_looked_up}
use Rattle.mv_script.proofs.columns.indexed_columns.Given as goal

abbrev pub invariant-loop-graph : goal.invariant-loop-graph
invariant-loop-graph l = (t c : ℕ) → t < 64 → c < 32 → are_tested l.all t c ≡ (false || list_any (is_looked_up t c) (take l.graph-index l.graph-items))
