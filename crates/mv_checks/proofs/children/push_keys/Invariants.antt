use Rattle.std.proofs.Common.{◌≡◌, ◌==◌, [], ◌++◌, map, drop, if◌then◌else◌}
use Rattle.mv_values.specs.declared.calls.End.TheVariants.{HasChildren}
use Rattle.mv_recorded.specs.Asking.{forbids, child_pred}
use Rattle.mv_checks.specs.Checking.{meant}
use Rattle.mv_checks.proofs.children.push_keys.Given as goal

abbrev pub invariant-loop-key : goal.invariant-loop-key
invariant-loop-key l =
    map (meant l.keys) l.checks ++ map (λ key. forbids (child_pred l.tables l.child.table l.child.column key) (if l.child.table == l.parent then l.keys else []) HasChildren) (drop l.key-index l.keys)
    ≡ map (meant l.keys) l.fn.checks ++ map (λ key. forbids (child_pred l.tables l.child.table l.child.column key) (if l.child.table == l.parent then l.keys else []) HasChildren) l.keys
