use Rattle.mv_recorded.proofs.Fronts.{database_kept, fronts_are, after_is}
use Rattle.mv_recorded.proofs.laws.databases_are_kept.Goals as goal

pub returns-clause-statement : goal.returns-clause-statement
returns-clause-statement c = database_kept

pub returns-clause-fronts : goal.returns-clause-fronts
returns-clause-fronts c = fronts_are

pub returns-clause-calls : goal.returns-clause-calls
returns-clause-calls c = after_is
