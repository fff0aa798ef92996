use Rattle.mv_exec.proofs.around.definer_of.Goals as goal

pub returns-in-None : goal.returns-in-None
returns-in-None c = rw (← c.in-None.ensures) c.last_definer.ensures
