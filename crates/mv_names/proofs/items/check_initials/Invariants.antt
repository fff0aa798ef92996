use Rattle.std.proofs.Common.{◌≡◌, ◌++◌, drop}
use Rattle.std.specs.List.{flat_map}
use Rattle.mv_names.specs.Faults as meant
use Rattle.mv_names.proofs.items.check_initials.Given as goal

abbrev pub invariant-loop-var : goal.invariant-loop-var
invariant-loop-var l = l.faults ++ flat_map meant.initial (drop l.var-index l.vars) ≡ l.fn.faults ++ flat_map meant.initial l.vars
