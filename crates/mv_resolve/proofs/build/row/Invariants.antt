use Rattle.std.proofs.Common.{◌≡◌, ◌++◌, drop, map}
use Rattle.mv_ast.specs.declared.tree.Lit.{Lit}
use Rattle.mv_resolve.specs.Building.{row_of}
use Rattle.mv_resolve.proofs.build.row.Given as goal

abbrev pub invariant-loop-literal : goal.invariant-loop-literal
invariant-loop-literal l = l.all ++ map (λ (v : Lit). v.value) (drop l.literal-index l.literal-items) ≡ row_of l.literals
