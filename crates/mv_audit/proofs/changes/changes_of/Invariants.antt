use Rattle.std.proofs.Common.{take}
use Rattle.mv_record.specs.Runs.{writes_in}
use Rattle.mv_changes.specs.Drafting.{IsDraft}
use Rattle.mv_audit.proofs.changes.changes_of.Given as goal

abbrev pub invariant-loop-record : goal.invariant-loop-record
invariant-loop-record l = IsDraft l.changes (writes_in (take l.record-index l.records)) l.tables
