use Rattle.mv_exec.proofs.Restoring.{AreBack}
use Rattle.mv_exec.proofs.variables.set_all_back.Given as goal

abbrev pub invariant-loop-variable : goal.invariant-loop-variable
invariant-loop-variable l = AreBack l.fn.kept.items l.fn.held l.variable l.kept.items l.held
