use Rattle.std.proofs.Common.{◌≡◌, ◌++◌, drop}
use Rattle.mv_resolve.specs.Building.{variable_slots}
use Rattle.mv_resolve.proofs.build_names.add_variables.Given as goal

abbrev pub invariant-loop-var : goal.invariant-loop-var
invariant-loop-var l = l.slots ++ variable_slots l.number (drop l.var-index l.vars) ≡ l.fn.slots ++ variable_slots l.first l.vars
