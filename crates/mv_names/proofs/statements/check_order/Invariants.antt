use Rattle.std.proofs.Common.{◌≡◌, ◌++◌, drop}
use Rattle.std.specs.Option.{option_copied}
use Rattle.mv_names.specs.Statements.{order_faults}
use Rattle.mv_names.proofs.statements.check_order.Given as goal

abbrev pub invariant-loop-sort : goal.invariant-loop-sort
invariant-loop-sort l = l.faults ++ order_faults (option_copied l.columns) (drop l.sort-index l.sorts) ≡ l.fn.faults ++ order_faults (option_copied l.columns) l.sorts
