use Rattle.std.proofs.Common.{◌≡◌, ◌++◌, drop}
use Rattle.std.specs.List.{flat_map}
use Rattle.mv_ast.specs.declared.tree.Param.{Param}
use Rattle.mv_names.specs.Faults as meant
use Rattle.mv_names.proofs.items.check_params.Given as goal

abbrev pub invariant-loop-param : goal.invariant-loop-param
invariant-loop-param l = l.faults ++ flat_map (λ (q : Param). meant.param_columns q.kind) (drop l.param-index l.params) ≡ l.fn.faults ++ flat_map (λ (q : Param). meant.param_columns q.kind) l.params
