use Rattle.std.proofs.Common.{◌≡◌, length}
use Rattle.mv_table.specs.Scans.{foremost}
use Rattle.mv_view.specs.Narrowing.{matching, outside}
use Rattle.mv_view.proofs.narrow.foremost_match.Given as goal

abbrev pub invariant-loop-item : goal.invariant-loop-item
invariant-loop-item g l = foremost l.direction (outside (g.K.KeySet.has l.passed) (matching l.pred l.left)) ≡ foremost l.direction (outside (g.K.KeySet.has l.passed) (matching l.pred l.rows))

abbrev pub decreases-loop-item : goal.decreases-loop-item
decreases-loop-item g l = length l.left
