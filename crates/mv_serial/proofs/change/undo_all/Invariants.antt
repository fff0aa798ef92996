use Rattle.std.proofs.Common.{◌≡◌, length}
use Rattle.mv_serial.specs.Changing.{changed_by}
use Rattle.mv_serial.proofs.change.undo_all.Given as goal

abbrev pub invariant-loop-change : goal.invariant-loop-change
invariant-loop-change l = changed_by l.undo l.tables ≡ changed_by l.fn.undo l.fn.tables

abbrev pub decreases-loop-change : goal.decreases-loop-change
decreases-loop-change l = length l.undo
