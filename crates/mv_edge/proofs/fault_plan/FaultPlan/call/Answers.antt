use Rattle.std.proofs.Common.{rules}
use Rattle.mv_edge.proofs.fault_plan.FaultPlan.call.Goals as goal

pub returns-then-is_listed-clause-fails : goal.returns-then-is_listed-clause-fails
returns-then-is_listed-clause-fails c = search rules
