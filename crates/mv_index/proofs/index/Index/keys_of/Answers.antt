use Rattle.mv_index.proofs.index.Index.keys_of.Goals as goal

pub returns : goal.returns
returns c = rw c.table.ensures at c.keys_for.ensures
