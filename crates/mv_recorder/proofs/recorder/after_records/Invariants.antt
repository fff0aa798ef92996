use Rattle.std.proofs.Common.{◌≡◌, drop}
use Rattle.mv_values.specs.Patching.{applied}
use Rattle.mv_record.specs.Runs.{writes_in}
use Rattle.mv_recorder.proofs.recorder.after_records.Given as goal

abbrev pub invariant-loop-one : goal.invariant-loop-one
invariant-loop-one l = applied (writes_in (drop l.one-index l.records)) l.tables ≡ applied (writes_in l.records) l.fn.tables
