use Rattle.std.proofs.Common.{refl}
use Rattle.mv_chain.specs.Having.{patch_has}
use Rattle.mv_store.proofs.Indexing.{forgets_itself, forgets_more, forgets_all}
use Rattle.mv_store.proofs.entries.ValueIndex.forget_undos.Goals as goal

pub loop-undo-init : goal.loop-undo-init
loop-undo-init g c = forgets_itself c.args.table c.args.key.now (g.K.Valued.versions c.args.kept.now) _ c.args.self.now (λ n v. refl)

pub loop-undo-preserved : goal.loop-undo-preserved
loop-undo-preserved g c =
    forgets_more c.args.table c.args.key.now (g.K.Valued.versions c.args.kept.now) (λ x n v. patch_has n v x.patch) c.args.undos.now c.loop-undo.undo-index c.undo-item.result c.args.self.now c.loop-undo.self c.forget.new.self c.loop-undo-test.true c.undo-item.is
    c.loop-undo.invariant c.forget.ensures

pub returns : goal.returns
returns g c = forgets_all c.args.table c.args.key.now (g.K.Valued.versions c.args.kept.now) (λ x n v. patch_has n v x.patch) c.args.undos.now c.loop-undo.undo-index c.args.self.now c.loop-undo.self c.loop-undo-test.false c.loop-undo.invariant
