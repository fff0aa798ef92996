use Rattle.mv_store.proofs.write.forget_replaced.Goals as goal

pub returns-in-Some : goal.returns-in-Some
returns-in-Some c = rw c.in-Some.is c.forget_unused.ensures
