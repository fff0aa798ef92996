use Rattle.std.proofs.Common.{◌≡◌, drop}
use Rattle.mv_values.specs.References.{all_references, references_to}
use Rattle.mv_serial.specs.Removing.{to_table, have_children}
use Rattle.mv_serial.proofs.children.have_children.Given as goal

abbrev pub invariant-loop-at : goal.invariant-loop-at
invariant-loop-at l =
    have_children (to_table l.removed.table (all_references l.at (drop l.at l.infos))) l.removed.table l.removed.tests.now l.tables
    ≡ have_children (references_to l.infos l.removed.table) l.removed.table l.removed.tests.now l.tables
