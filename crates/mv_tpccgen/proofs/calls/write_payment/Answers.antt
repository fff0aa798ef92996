use Rattle.std.proofs.Common.{append_assoc}
use Rattle.mv_tpccgen.specs.Calls.{call_text}
use Rattle.mv_tpccgen.proofs.calls.write_payment.Goals as goal

pub returns : goal.returns
unfolding call_text
returns c =
    let two = rw c.in_ok-append.ensures.ok at c.in_ok-write_each.ensures in
    let three = rw two at c.in_ok-write_customer.ensures in
    let four = rw three at c.in_ok-append-2.ensures.ok in
    let five = rw four at c.in_ok-write_number.ensures in
    let six = rw five at c.in_ok-append-3.ensures.ok in
    let seven = rw six at c.in_ok-write_number-2.ensures in
    let eight = rw seven at c.append-4.ensures.ok in
    simp append_assoc at eight
