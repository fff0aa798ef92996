use Rattle.std.proofs.Common.{◌≡◌, drop, map}
use Rattle.std.specs.List.{list_all}
use Rattle.mv_values.specs.Keys.{keys}
use Rattle.mv_table.specs.Entries.{seen}
use Rattle.mv_recorded.specs.Asking.{is_among}
use Rattle.mv_recorder.proofs.checks.have_keys.Given as goal

abbrev pub invariant-loop-entry : goal.invariant-loop-entry
invariant-loop-entry l = list_all (is_among l.own) (keys (map seen (drop l.entry-index l.rows))) ≡ list_all (is_among l.own) (keys (map seen l.rows))
