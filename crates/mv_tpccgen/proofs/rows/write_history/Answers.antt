use Rattle.std.proofs.Common.{append_assoc}
use Rattle.mv_tpccgen.proofs.rows.write_history.Goals as goal

pub returns : goal.returns
returns c =
    let two = rw c.in_ok-write_each.ensures at c.append.ensures.ok in
    simp append_assoc at two
