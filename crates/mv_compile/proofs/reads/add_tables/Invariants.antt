use Rattle.std.proofs.Common.{◌≡◌, ◌++◌, map, drop}
use Rattle.mv_checks.specs.declared.children.Child.{Child}
use Rattle.mv_compile.proofs.reads.add_tables.Given as goal

abbrev pub invariant-loop-child : goal.invariant-loop-child
invariant-loop-child l = l.found ++ map (λ (child : Child). child.table) (drop l.child-index l.children) ≡ l.fn.found ++ map (λ (child : Child). child.table) l.children
