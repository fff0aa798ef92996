use Rattle.std.proofs.Common.{◌≡◌, ◌++◌}
use Rattle.mv_values.specs.Keys.{IsRising, stored}
use Rattle.mv_csvio.proofs.joining.Joining.of.Given as goal

abbrev pub invariant-loop-item : goal.invariant-loop-item
invariant-loop-item l = (stored l.by_key.entries ++ l.item-iterator.rest.items ≡ l.fn.rows) × IsRising l.fn.rows
