use Rattle.std.proofs.Common.{◌≡◌, ◌++◌, drop}
use Rattle.std.specs.List.{flat_map}
use Rattle.mv_recorded.specs.Reading.{variables}
use Rattle.mv_recorded.proofs.reads.add_all.Given as goal

abbrev pub invariant-loop-expr : goal.invariant-loop-expr
invariant-loop-expr l = l.found ++ flat_map variables (drop l.expr-index l.exprs) ≡ l.fn.found ++ flat_map variables l.exprs
