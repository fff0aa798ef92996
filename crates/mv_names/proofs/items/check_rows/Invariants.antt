use Rattle.std.proofs.Common.{◌≡◌, ◌++◌, drop}
use Rattle.mv_names.specs.Faults as meant
use Rattle.mv_names.proofs.items.check_rows.Given as goal

abbrev pub invariant-loop-row : goal.invariant-loop-row
invariant-loop-row l = l.faults ++ meant.rows l.columns (drop l.row-index l.rows) ≡ l.fn.faults ++ meant.rows l.columns l.rows
