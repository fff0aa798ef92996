use Rattle.mv_recorded.proofs.ReferenceExamples.{shuts, hires, joins, leaves, bosses}
use Rattle.mv_recorded.proofs.laws.reference_examples.Goals as goal

pub returns-clause-shut : goal.returns-clause-shut
returns-clause-shut c = shuts

pub returns-clause-hire : goal.returns-clause-hire
returns-clause-hire c = hires

pub returns-clause-own_parent : goal.returns-clause-own_parent
returns-clause-own_parent c = joins

pub returns-clause-leave : goal.returns-clause-leave
returns-clause-leave c = leaves

pub returns-clause-update : goal.returns-clause-update
returns-clause-update c = bosses
