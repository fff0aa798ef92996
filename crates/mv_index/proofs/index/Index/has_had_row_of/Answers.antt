use Rattle.mv_index.proofs.index.Index.has_had_row_of.Goals as goal

pub returns-clause-had : goal.returns-clause-had
returns-clause-had c = rw c.table.ensures at c.has_had_row.ensures.had

pub returns-clause-byte : goal.returns-clause-byte
returns-clause-byte c = rw c.table.ensures at c.has_had_row.ensures.byte
