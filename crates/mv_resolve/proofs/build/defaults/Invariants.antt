use Rattle.std.proofs.Common.{◌≡◌, ◌++◌, drop, map}
use Rattle.mv_ast.specs.declared.tree.VarDef.{VarDef}
use Rattle.mv_resolve.proofs.build.defaults.Given as goal

abbrev pub invariant-loop-var : goal.invariant-loop-var
invariant-loop-var l = l.all ++ map (λ (v : VarDef). v.initial.value) (drop l.var-index l.vars) ≡ map (λ (v : VarDef). v.initial.value) l.vars
