use Rattle.std.proofs.Common.{append_assoc}
use Rattle.mv_tpccgen.specs.Names.{last_name}
use Rattle.mv_tpccgen.proofs.names.write_last_name.Goals as goal

pub returns : goal.returns
unfolding last_name
returns c =
    let one = rw c.syllable.ensures at c.in_ok-append.ensures.ok in
    let two = rw one at (rw c.syllable-2.ensures at c.in_ok-append-2.ensures.ok) in
    let three = rw two at (rw c.syllable-3.ensures at c.append-3.ensures.ok) in
    simp append_assoc at three
