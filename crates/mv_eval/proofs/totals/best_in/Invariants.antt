use Rattle.std.proofs.Common.{◌≡◌, ◌≤◌, length, drop, map, if◌then◌else◌}
use Rattle.std.specs.Option.{option_copied, option_map}
use Rattle.mv_values.specs.Columns.{column_of}
use Rattle.mv_eval.specs.Rows.{column, least, greatest}
use Rattle.mv_eval.proofs.totals.best_in.Given as goal

abbrev pub invariant-loop-left : goal.invariant-loop-left
invariant-loop-left g l = record {
  within : l.left ≤ length l.rows;
  so_far : option_map (λ i. column_of (g.R.Stored.keyed i).row l.c) (option_copied l.best) ≡ (if l.highest then greatest (column l.c (map g.R.Stored.keyed (drop l.left l.rows))) else least (column l.c (map g.R.Stored.keyed (drop l.left l.rows))));
}

abbrev pub decreases-loop-left : goal.decreases-loop-left
decreases-loop-left g l = l.left
