use Rattle.mv_index.proofs.look.row_of.Goals as goal

pub returns-clause-found : goal.returns-clause-found
returns-clause-found g c = rw c.table.ensures at c.row.ensures.found
