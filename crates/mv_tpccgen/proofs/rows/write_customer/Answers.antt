use Rattle.std.proofs.Common.{append_assoc}
use Rattle.mv_tpccgen.proofs.rows.write_customer.Goals as goal

pub returns : goal.returns
returns c =
    let two = rw c.in_ok-write_each.ensures at c.in_ok-write_first_name.ensures in
    let three = rw two at c.in_ok-append.ensures.ok in
    let four = rw three at c.in_ok-write_last_name.ensures in
    let five = rw four at c.in_ok-append-2.ensures.ok in
    let six = rw five at (rw c.credit.ensures at c.in_ok-append-3.ensures.ok) in
    let seven = rw six at c.in_ok-append-4.ensures.ok in
    let eight = rw seven at c.in_ok-write_number.ensures in
    let nine = rw eight at c.append-5.ensures.ok in
    simp append_assoc at nine
