use Rattle.mv_print.proofs.expr.write_one_tail.Goals as goal

pub returns-in-Not : goal.returns-in-Not
returns-in-Not c = rw c.in-Not.is c.write_closed-in-Not.ensures
