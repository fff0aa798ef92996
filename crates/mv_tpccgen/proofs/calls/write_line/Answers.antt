use Rattle.std.proofs.Common.{append_assoc}
use Rattle.mv_tpccgen.specs.Calls.{line_text}
use Rattle.mv_tpccgen.proofs.calls.write_line.Goals as goal

pub returns : goal.returns
unfolding line_text
returns c =
    let two = rw c.in_ok-append.ensures.ok at c.in_ok-write_each.ensures in
    let three = rw two at c.in_ok-write_number.ensures in
    let four = rw three at c.append-2.ensures.ok in
    simp append_assoc at four
