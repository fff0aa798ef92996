use Rattle.std.proofs.Common.{◌≡◌, drop}
use Rattle.mv_values.specs.References.{references_from}
use Rattle.mv_serial.specs.Removing.{to_table, have_children}
use Rattle.mv_serial.proofs.children.columns_have_children.Given as goal

abbrev pub invariant-loop-at : goal.invariant-loop-at
invariant-loop-at l =
    have_children (to_table l.removed.table (references_from l.table l.at (drop l.at l.columns))) l.removed.table l.removed.tests.now l.tables
    ≡ have_children (to_table l.removed.table (references_from l.table 0 l.columns)) l.removed.table l.removed.tests.now l.tables
