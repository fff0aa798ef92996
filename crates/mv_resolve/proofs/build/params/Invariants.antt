use Rattle.std.proofs.Common.{◌≡◌, ◌++◌, drop, map}
use Rattle.mv_ast.specs.declared.tree.Param.{Param}
use Rattle.mv_resolve.specs.Building.{param_of}
use Rattle.mv_resolve.proofs.build.params.Given as goal

abbrev pub invariant-loop-one : goal.invariant-loop-one
invariant-loop-one l = l.all ++ map (λ (q : Param). param_of q.kind) (drop l.one-index l.params) ≡ map (λ (q : Param). param_of q.kind) l.params
