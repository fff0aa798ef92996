use Rattle.mv_resolve.proofs.build.copy_into.Goals as goal

pub returns : goal.returns
returns c = rw (c.tiny_number-table.ensures, c.place.ensures) at c.block_into.ensures
