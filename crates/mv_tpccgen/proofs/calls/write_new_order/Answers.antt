use Rattle.std.proofs.Common.{append_assoc}
use Rattle.mv_tpccgen.specs.Calls.{call_text}
use Rattle.mv_tpccgen.proofs.calls.write_new_order.Goals as goal

pub returns : goal.returns
unfolding call_text
returns c =
    let two = rw c.in_ok-append.ensures.ok at c.in_ok-write_each.ensures in
    let three = rw two at c.in_ok-append-2.ensures.ok in
    let four = rw three at (rw c.as_slice.ensures at c.in_ok-write_lines.ensures) in
    let five = rw four at c.append-3.ensures.ok in
    simp append_assoc at five
