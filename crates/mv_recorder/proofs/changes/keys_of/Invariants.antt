use Rattle.std.proofs.Common.{◌≡◌, ◌++◌, drop, map}
use Rattle.mv_values.specs.Keys.{keys}
use Rattle.mv_table.specs.Entries.{seen}
use Rattle.mv_recorder.proofs.changes.keys_of.Given as goal

abbrev pub invariant-loop-entry : goal.invariant-loop-entry
invariant-loop-entry l = l.all ++ keys (map seen (drop l.entry-index l.rows)) ≡ keys (map seen l.rows)
