use Rattle.std.proofs.Common.{◌≡◌, ◌++◌}
use Rattle.mv_values.specs.Keys.{IsRising}
use Rattle.mv_table.proofs.found_rows.own_items.Given as goal

abbrev pub invariant-loop-item : goal.invariant-loop-item
invariant-loop-item l = record {
  rows : l.rows ++ l.item-iterator.rest.items ≡ l.fn.items.items;
  rising : IsRising l.fn.items.items;
}
