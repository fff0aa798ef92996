use Rattle.std.proofs.Common.{rules}
use Rattle.mv_names.proofs.fault.comes_before.Goals as goal

pub returns-then-fault-other : goal.returns-then-fault-other
returns-then-fault-other c = search rules

pub returns-else-fault-other-2 : goal.returns-else-fault-other-2
returns-else-fault-other-2 c = search rules
