use Rattle.std.proofs.Common.{◌≡◌, ◌==◌, ◌++◌, map, drop}
use Rattle.std.specs.List.{filter}
use Rattle.mv_values.specs.References.{Reference, all_references, references_to}
use Rattle.mv_checks.specs.Checking.{reference_to}
use Rattle.mv_checks.proofs.children.children_of.Given as goal

abbrev pub invariant-loop-at : goal.invariant-loop-at
invariant-loop-at l = map (reference_to l.parent) l.all ++ filter (λ (r : Reference). r.parent == l.parent) (all_references l.at (drop l.at l.tables)) ≡ references_to l.tables l.parent
