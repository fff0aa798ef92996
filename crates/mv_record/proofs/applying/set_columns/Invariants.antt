use Rattle.std.proofs.Common.{◌≡◌, drop}
use Rattle.mv_values.specs.Patching.{with_columns}
use Rattle.mv_record.proofs.applying.set_columns.Given as goal

abbrev pub invariant-loop-item : goal.invariant-loop-item
invariant-loop-item l = with_columns (drop l.item-index l.items) l.new ≡ with_columns l.items l.row
