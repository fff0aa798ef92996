use Rattle.mv_names.proofs.Ordered.{first_at}
use Rattle.mv_names.proofs.fault.first_of.Goals as goal

pub loop-fault-preserved : goal.loop-fault-preserved
loop-fault-preserved c =
    first_at c.args.faults.now c.loop-fault.fault-index c.loop-fault.first _ c.earlier.result c.loop-fault-test.true c.loop-fault.invariant c.earlier.ensures
