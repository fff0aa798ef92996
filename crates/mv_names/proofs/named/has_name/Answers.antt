use Rattle.mv_names.proofs.Finding.{named_here, named_behind}
use Rattle.mv_names.proofs.named.has_name.Goals as goal

pub returns-then-eq : goal.returns-then-eq
returns-then-eq g c =
    named_here g.T.Named.name_of c.args.items.now c.loop-item.item-index c.item-item.result c.args.name.now _ c.item-item.is c.loop-item-test.true (rw c.name.ensures at c.if-eq.ensures)
    c.loop-item.invariant

pub loop-item-preserved : goal.loop-item-preserved
loop-item-preserved g c =
    named_behind g.T.Named.name_of c.args.items.now c.loop-item.item-index c.item-item.result c.args.name.now _ c.item-item.is c.loop-item-test.true (rw c.name.ensures at c.if-eq.ensures)
    c.loop-item.invariant
