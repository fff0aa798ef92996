use Rattle.std.proofs.Common.{◌≡◌, [], All, take, drop}
use Rattle.mv_changes.specs.Admitting.{AreAdmitted}
use Rattle.mv_changes.specs.Hitting.{first_record}
use Rattle.mv_changes.proofs.validate.first_record.Given as goal

abbrev pub invariant-loop-number : goal.invariant-loop-number
invariant-loop-number l = All (AreAdmitted l.changes) l.records → first_record l.changes (take l.number l.records) (drop l.number l.records) ≡ first_record l.changes [] l.records
