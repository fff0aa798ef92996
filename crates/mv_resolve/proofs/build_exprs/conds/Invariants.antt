use Rattle.std.proofs.Common.{◌≡◌, ◌++◌, drop}
use Rattle.std.specs.Option.{option_copied}
use Rattle.mv_resolve.specs.Building.{columns_in, conds_of}
use Rattle.mv_resolve.proofs.build_exprs.conds.Given as goal

abbrev pub invariant-loop-cond : goal.invariant-loop-cond
invariant-loop-cond l = l.all ++ conds_of l.slots (columns_in (option_copied l.table)) (drop l.cond-index l.conds) ≡ conds_of l.slots (columns_in (option_copied l.table)) l.conds
