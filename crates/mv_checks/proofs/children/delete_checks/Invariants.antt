use Rattle.std.proofs.Common.{◌≡◌, ◌++◌, map, drop}
use Rattle.std.specs.List.{flat_map}
use Rattle.mv_checks.specs.Checking.{meant, child_checks, reference_to}
use Rattle.mv_checks.proofs.children.delete_checks.Given as goal

abbrev pub invariant-loop-child : goal.invariant-loop-child
invariant-loop-child l =
    map (meant l.keys) l.checks ++ flat_map (child_checks l.tables l.parent l.keys) (map (reference_to l.parent) (drop l.child-index l.children)) ≡ flat_map (child_checks l.tables l.parent l.keys) (map (reference_to l.parent) l.children)
