use Rattle.std.proofs.Common.{append_assoc}
use Rattle.mv_tpccgen.proofs.rows.write_district.Goals as goal

pub returns : goal.returns
returns c =
    let two = rw c.in_ok-write_each.ensures at c.in_ok-append.ensures.ok in
    let three = rw two at c.in_ok-write_each-2.ensures in
    let four = rw three at c.append-2.ensures.ok in
    simp append_assoc at four
