use Rattle.std.proofs.Common.{append_assoc}
use Rattle.mv_tpccgen.proofs.rows.write_order_line.Goals as goal

pub returns : goal.returns
returns c =
    let one = rw c.delivery_date.ensures at c.in_ok-write_each.ensures in
    let two = rw one at (rw c.amount.ensures at c.in_ok-write_number.ensures) in
    let three = rw two at c.append.ensures.ok in
    simp append_assoc at three
