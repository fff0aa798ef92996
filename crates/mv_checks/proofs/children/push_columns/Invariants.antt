use Rattle.std.proofs.Common.{◌≡◌, ◌==◌, ◌++◌, map, drop}
use Rattle.std.specs.List.{filter}
use Rattle.mv_values.specs.References.{Reference, references_from}
use Rattle.mv_checks.specs.Checking.{reference_to}
use Rattle.mv_checks.proofs.children.push_columns.Given as goal

abbrev pub invariant-loop-at : goal.invariant-loop-at
invariant-loop-at l =
    map (reference_to l.parent) l.all ++ filter (λ (r : Reference). r.parent == l.parent) (references_from l.table l.at (drop l.at l.columns))
    ≡ map (reference_to l.parent) l.fn.all ++ filter (λ (r : Reference). r.parent == l.parent) (references_from l.table 0 l.columns)
