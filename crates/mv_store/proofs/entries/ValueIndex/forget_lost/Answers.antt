use Rattle.mv_store.proofs.entries.ValueIndex.forget_lost.Goals as goal

pub returns-in-Finish : goal.returns-in-Finish
returns-in-Finish c = rw c.in-Finish.is c.forget_finished.ensures

pub returns-in-Collect : goal.returns-in-Collect
returns-in-Collect c = rw c.in-Collect.is c.forget_collected.ensures
