use Rattle.std.proofs.Common.{◌≡◌, ◌++◌, drop, map}
use Rattle.mv_ast.specs.declared.tree.ColDef.{ColDef}
use Rattle.mv_resolve.proofs.build.types.Given as goal

abbrev pub invariant-loop-column : goal.invariant-loop-column
invariant-loop-column l = l.all ++ map (λ (c : ColDef). c.kind) (drop l.column-index l.columns) ≡ map (λ (c : ColDef). c.kind) l.columns
