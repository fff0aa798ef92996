use Rattle.std.proofs.Common.{◌≡◌, ◌++◌, drop, map}
use Rattle.mv_names.specs.Scope.{variable}
use Rattle.mv_names.proofs.items.add_vars.Given as goal

abbrev pub invariant-loop-var : goal.invariant-loop-var
invariant-loop-var l = l.scope ++ map variable (drop l.var-index l.vars) ≡ l.fn.scope ++ map variable l.vars
