use Rattle.std.proofs.Common.{refl}
use Rattle.mv_chain.specs.Having.{item_has}
use Rattle.mv_store.proofs.Indexing.{forgets_itself, forgets_more, forgets_all}
use Rattle.mv_store.proofs.entries.forget_items.Goals as goal

pub loop-item-init : goal.loop-item-init
loop-item-init g c = forgets_itself c.args.table c.args.key.now (g.K.Valued.versions c.args.kept.now) _ c.args.index.now (λ n v. refl)

pub loop-item-preserved : goal.loop-item-preserved
loop-item-preserved g c =
    forgets_more c.args.table c.args.key.now (g.K.Valued.versions c.args.kept.now) (λ x n v. item_has n v x) c.args.items.now c.loop-item.item-index c.item-item.result c.args.index.now c.loop-item.index c.forget_value.new.index c.loop-item-test.true c.item-item.is c.loop-item.invariant
    c.forget_value.ensures

pub returns : goal.returns
returns g c = forgets_all c.args.table c.args.key.now (g.K.Valued.versions c.args.kept.now) (λ x n v. item_has n v x) c.args.items.now c.loop-item.item-index c.args.index.now c.loop-item.index c.loop-item-test.false c.loop-item.invariant
