use Rattle.std.proofs.Common.{◌≡◌, take}
use Rattle.mv_view.specs.Narrowing.{matching}
use Rattle.mv_view.proofs.narrow.copy_matches.Given as goal

abbrev pub invariant-loop-item : goal.invariant-loop-item
invariant-loop-item l = l.found ≡ matching l.pred (take l.item-index l.rows)
