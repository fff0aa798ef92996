use Rattle.std.proofs.Common.{◌≡◌, length}
use Rattle.mv_values.specs.Keys.{stored}
use Rattle.mv_table.specs.Entries.{picked}
use Rattle.mv_table.specs.Scans.{foremost}
use Rattle.mv_view.specs.Narrowing.{outside}
use Rattle.mv_store.proofs.Found.{found_in}
use Rattle.mv_store.proofs.find.foremost_match.Given as goal

abbrev pub invariant-loop-key : goal.invariant-loop-key
invariant-loop-key g l =
    foremost l.direction (outside (g.K.KeySet.has l.passed) (stored (picked (found_in l.n l.pred) l.left)))
    ≡ foremost l.direction (outside (g.K.KeySet.has l.passed) (stored (picked (found_in l.n l.pred) l.fn.entries)))

abbrev pub decreases-loop-key : goal.decreases-loop-key
decreases-loop-key g l = length l.left
