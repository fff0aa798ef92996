use Rattle.std.proofs.Common.{◌≡◌, ◌++◌, drop}
use Rattle.std.specs.List.{flat_map}
use Rattle.mv_recorded.specs.Reading.{variables, rights}
use Rattle.mv_recorded.proofs.reads.add_conds.Given as goal

abbrev pub invariant-loop-cond : goal.invariant-loop-cond
invariant-loop-cond l = l.found ++ flat_map variables (rights (drop l.cond-index l.conds)) ≡ l.fn.found ++ flat_map variables (rights l.conds)
