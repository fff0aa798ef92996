use Rattle.std.proofs.Common.{◌≡◌, ◌++◌}
use Rattle.mv_undo.proofs.merge.Merge.into_rows.Given as goal

abbrev pub invariant-loop-item : goal.invariant-loop-item
invariant-loop-item l = l.rows ++ l.item-iterator.rest.items ≡ l.fn.self.done ++ l.fn.self.ahead.items
