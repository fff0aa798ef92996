use Rattle.mv_resolve.proofs.build_names.number_of_found.Goals as goal

pub returns : goal.returns
returns c = rw (c.len.ensures, c.len-2.ensures) at c.sum.ensures
