use Rattle.std.proofs.Common.{◌≡◌, length}
use Rattle.mv_serial.specs.Changing.{changed_by, KeepsUndo}
use Rattle.mv_serial.proofs.change.make_all.Given as goal

abbrev pub invariant-loop-change : goal.invariant-loop-change
invariant-loop-change l = record {
  tables : changed_by l.changes l.tables ≡ changed_by l.fn.changes l.fn.tables;
  undo : KeepsUndo l.fn.undo l.fn.tables l.undo l.tables;
}

abbrev pub decreases-loop-change : goal.decreases-loop-change
decreases-loop-change l = length l.changes
