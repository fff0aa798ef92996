use Rattle.std.proofs.Common.{◌≡◌, ◌++◌, drop, map}
use Rattle.mv_ast.specs.declared.tree.Name.{Name}
use Rattle.mv_names.specs.Named.{place_named}
use Rattle.mv_resolve.specs.Building.{tiny, column_name}
use Rattle.mv_resolve.proofs.build.key_places.Given as goal

abbrev pub invariant-loop-name : goal.invariant-loop-name
invariant-loop-name l = l.all ++ map (λ (n : Name). tiny (place_named column_name l.columns n.text)) (drop l.name-index l.key) ≡ map (λ (n : Name). tiny (place_named column_name l.columns n.text)) l.key
