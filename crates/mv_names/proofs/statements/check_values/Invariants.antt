use Rattle.std.proofs.Common.{◌≡◌, ◌++◌, drop}
use Rattle.mv_names.specs.Statements.{values_faults}
use Rattle.mv_names.proofs.statements.check_values.Given as goal

abbrev pub invariant-loop-i : goal.invariant-loop-i
invariant-loop-i l = l.faults ++ values_faults l.scope (drop l.i l.columns) (drop l.i l.values) ≡ l.fn.faults ++ values_faults l.scope l.columns l.values
