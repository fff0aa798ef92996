use Rattle.std.proofs.Common.{◌≡◌, [], ◌++◌, map, drop}
use Rattle.mv_values.specs.References.{references_from}
use Rattle.mv_checks.specs.Checking.{meant, parent_checks}
use Rattle.mv_checks.proofs.parents.push_columns.Given as goal

abbrev pub invariant-loop-at : goal.invariant-loop-at
invariant-loop-at l =
    map (meant []) l.checks ++ parent_checks l.tables l.item (references_from l.table l.at (drop l.at l.columns)) ≡ map (meant []) l.fn.checks ++ parent_checks l.tables l.item (references_from l.table 0 l.columns)
