use Rattle.mv_recorded.proofs.Told.{ends_are_faults}
use Rattle.mv_recorded.proofs.Parents.{references_kept}
use Rattle.mv_recorded.proofs.Orphans.{references_stand}
use Rattle.mv_recorded.proofs.Kinship.{calls_keep}
use Rattle.mv_recorded.proofs.laws.parents_are_kept.Goals as goal

pub returns-clause-ends : goal.returns-clause-ends
returns-clause-ends c = ends_are_faults

pub returns-clause-parents : goal.returns-clause-parents
returns-clause-parents c = references_kept

pub returns-clause-opening : goal.returns-clause-opening
returns-clause-opening c = references_stand

pub returns-clause-calls : goal.returns-clause-calls
returns-clause-calls c = calls_keep
