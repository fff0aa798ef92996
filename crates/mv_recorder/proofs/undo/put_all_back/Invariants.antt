use Rattle.std.proofs.Common.{◌≡◌, length}
use Rattle.mv_recorder.specs.Undoing.{all_back}
use Rattle.mv_recorder.proofs.undo.put_all_back.Given as goal

abbrev pub invariant-loop-was : goal.invariant-loop-was
invariant-loop-was l = all_back l.undo l.tables ≡ all_back l.fn.undo l.fn.tables

abbrev pub decreases-loop-was : goal.decreases-loop-was
decreases-loop-was l = length l.undo
