use Rattle.std.proofs.Common.{◌≡◌, [], ◌++◌, map, drop}
use Rattle.std.specs.List.{flat_map}
use Rattle.mv_recorded.specs.Asking.{item_checks}
use Rattle.mv_checks.specs.Checking.{meant}
use Rattle.mv_checks.proofs.parents.push_items.Given as goal

abbrev pub invariant-loop-item : goal.invariant-loop-item
invariant-loop-item l =
    map (meant []) l.checks ++ flat_map (item_checks l.tables l.update.table l.env l.row) (drop l.item-index l.update.items.now) ≡ map (meant []) l.fn.checks ++ flat_map (item_checks l.tables l.update.table l.env l.row) l.update.items.now
