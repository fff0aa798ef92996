use Rattle.std.proofs.Common.{take}
use Rattle.mv_names.specs.First.{IsFirstOf}
use Rattle.mv_names.proofs.fault.first_of.Given as goal

abbrev pub invariant-loop-fault : goal.invariant-loop-fault
invariant-loop-fault l = IsFirstOf (take l.fault-index l.faults) l.first
