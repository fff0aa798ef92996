use Rattle.std.proofs.Common.{◌≡◌, ◌++◌}
use Rattle.mv_values.specs.Keys.{IsRising, stored}
use Rattle.mv_csvio.proofs.joining.Joining.into_rows.Given as goal

abbrev pub invariant-loop-key : goal.invariant-loop-key
invariant-loop-key l =
    (goal.iterator-loop-key).can_next l.key-iterator ×
    (goal.iterator-loop-key).is_finite l.key-iterator ×
    (l.rows ++ stored l.key-iterator ≡ l.fn.self) ×
    IsRising l.fn.self
