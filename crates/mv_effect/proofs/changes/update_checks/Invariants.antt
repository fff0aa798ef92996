use Rattle.std.proofs.Common.{◌≡◌, [], ◌++◌, map, drop}
use Rattle.mv_recorded.specs.Asking.{update_checks}
use Rattle.mv_checks.specs.Checking.{meant}
use Rattle.mv_effect.proofs.changes.update_checks.Given as goal

abbrev pub invariant-loop-item : goal.invariant-loop-item
invariant-loop-item l =
    map (meant []) l.checks ++ update_checks l.context.tables.now l.update.table l.update.items.now l.context.env.now (drop l.item-index l.rows) ≡ update_checks l.context.tables.now l.update.table l.update.items.now l.context.env.now l.rows
