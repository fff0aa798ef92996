use Rattle.std.proofs.Common.{rules}
use Rattle.mv_edge.proofs.fault_plan.FaultPlan.fault.Goals as goal

pub returns-clause-fault : goal.returns-clause-fault
returns-clause-fault c = search rules

pub returns-clause-rises : goal.returns-clause-rises
returns-clause-rises c = search rules
