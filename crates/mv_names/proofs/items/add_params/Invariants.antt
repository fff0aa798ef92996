use Rattle.std.proofs.Common.{◌≡◌, ◌++◌, drop, map}
use Rattle.mv_names.specs.Scope.{parameter}
use Rattle.mv_names.proofs.items.add_params.Given as goal

abbrev pub invariant-loop-param : goal.invariant-loop-param
invariant-loop-param l = l.scope ++ map parameter (drop l.param-index l.params) ≡ l.fn.scope ++ map parameter l.params
