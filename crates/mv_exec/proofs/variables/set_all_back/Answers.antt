use Rattle.mv_exec.proofs.Restoring.{one_back}
use Rattle.mv_exec.proofs.variables.set_all_back.Goals as goal

pub loop-variable-preserved : goal.loop-variable-preserved
loop-variable-preserved c =
    one_back c.args.kept.now.items c.args.held.now c.loop-variable.variable c.loop-variable.kept.items c.take-first.new.kept.items c.loop-variable.held c.set_back.new.held c.take-first.result
    c.loop-variable.invariant c.take-first.ensures.back c.take-first.ensures.items c.set_back.ensures
