use Rattle.std.proofs.Common.{◌≡◌, ◌++◌}
use Rattle.mv_values.specs.Keys.{IsRising, stored}
use Rattle.mv_table.proofs.table.Table.into_rows.Given as goal

abbrev pub invariant-loop-key : goal.invariant-loop-key
invariant-loop-key l = record {
  can : (goal.iterator-loop-key).can_next l.key-iterator;
  ends : (goal.iterator-loop-key).is_finite l.key-iterator;
  rows : l.rows ++ stored l.key-iterator ≡ l.fn.self;
  rising : IsRising l.fn.self;
}
