use Rattle.std.proofs.Common.{◌≡◌, [], ◌++◌, map, drop}
use Rattle.mv_table.specs.Entries.{seen}
use Rattle.mv_recorded.specs.Asking.{update_checks}
use Rattle.mv_checks.specs.Checking.{meant}
use Rattle.mv_recorder.proofs.changes.update_checks.Given as goal

abbrev pub invariant-loop-entry : goal.invariant-loop-entry
invariant-loop-entry l =
    map (meant []) l.checks ++ update_checks l.scene.infos.now l.update.table l.update.items.now l.scene.env.now (map seen (drop l.entry-index l.rows)) ≡ update_checks l.scene.infos.now l.update.table l.update.items.now l.scene.env.now (map seen l.rows)
