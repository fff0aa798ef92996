use Rattle.std.proofs.Common.{◌≡◌, drop}
use Rattle.mv_values.specs.Patching.{applied}
use Rattle.mv_recorder.specs.Undoing.{KeepsBack}
use Rattle.mv_recorder.proofs.undo.write_all.Given as goal

abbrev pub invariant-loop-one : goal.invariant-loop-one
invariant-loop-one l = record {
  tables : applied (drop l.one-index l.writes) l.tables ≡ applied l.writes l.fn.tables;
  undo : KeepsBack l.fn.undo l.fn.tables l.undo l.tables;
}
