use Rattle.std.proofs.Common.{◌≡◌, ◌++◌}
use Rattle.mv_values.specs.Keys.{IsRising}
use Rattle.mv_table.proofs.found_rows.FoundRows.made.Given as goal

abbrev pub invariant-loop-item : goal.invariant-loop-item
invariant-loop-item l = record {
  rows : l.found ++ l.item-iterator.rest.items ≡ l.fn.rows;
  rising : IsRising l.fn.rows;
}
