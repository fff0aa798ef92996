use Rattle.std.proofs.Common.{◌≡◌, ◌++◌, drop, map}
use Rattle.mv_table.specs.Entries.{seen}
use Rattle.mv_serial.specs.Changing.{removals}
use Rattle.mv_serial.proofs.deleting.removals_of.Given as goal

abbrev pub invariant-loop-entry : goal.invariant-loop-entry
invariant-loop-entry l = l.changes ++ removals l.table (map seen (drop l.entry-index l.rows)) ≡ removals l.table (map seen l.rows)
