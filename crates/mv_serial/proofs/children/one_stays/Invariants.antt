use Rattle.std.proofs.Common.{◌≡◌, drop, map}
use Rattle.std.specs.List.{list_any}
use Rattle.mv_values.specs.declared.rows.Keyed.{Keyed}
use Rattle.mv_table.specs.Entries.{seen}
use Rattle.mv_serial.specs.Removing.{stays}
use Rattle.mv_serial.proofs.children.one_stays.Given as goal

abbrev pub invariant-loop-entry : goal.invariant-loop-entry
invariant-loop-entry l =
    list_any (λ (item : Keyed). stays l.removed.table l.removed.tests.now l.table item.row) (map seen (drop l.entry-index l.rows))
    ≡ list_any (λ (item : Keyed). stays l.removed.table l.removed.tests.now l.table item.row) (map seen l.rows)
