use Rattle.std.proofs.Common.{◌≡◌, ◌++◌, drop}
use Rattle.std.specs.Option.{option_copied}
use Rattle.mv_names.specs.Statements.{where_faults}
use Rattle.mv_names.proofs.statements.check_where.Given as goal

abbrev pub invariant-loop-cond : goal.invariant-loop-cond
invariant-loop-cond l = l.faults ++ where_faults l.scope (option_copied l.columns) (drop l.cond-index l.conds) ≡ l.fn.faults ++ where_faults l.scope (option_copied l.columns) l.conds
