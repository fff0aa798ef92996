use Rattle.std.proofs.Common.{◌≡◌, drop, map}
use Rattle.std.specs.List.{list_any}
use Rattle.mv_values.specs.declared.rows.Keyed.{Keyed}
use Rattle.mv_table.specs.Entries.{seen}
use Rattle.mv_eval.specs.References.{holds_key, left_in}
use Rattle.mv_serial.proofs.children.one_has_child.Given as goal

abbrev pub invariant-loop-entry : goal.invariant-loop-entry
invariant-loop-entry l =
    list_any (λ (item : Keyed). list_any (holds_key l.column item.key) (left_in l.removed.table l.removed.tests.now l.tables l.table)) (map seen (drop l.entry-index l.rows))
    ≡ list_any (λ (item : Keyed). list_any (holds_key l.column item.key) (left_in l.removed.table l.removed.tests.now l.tables l.table)) (map seen l.rows)
