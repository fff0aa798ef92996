use Rattle.std.proofs.Common.{arith}
use Rattle.mv_names.proofs.Finding.{place_here}
use Rattle.mv_names.proofs.named.place.Goals as goal

pub returns-then-eq : goal.returns-then-eq
returns-then-eq g c =
    place_here g.T.Named.name_of c.args.items.now c.loop-i.i c.index-items-i.result c.args.name.now _ c.index-items-i.is (omega arith) (rw c.name.ensures at c.if-eq.ensures) c.loop-i.invariant
