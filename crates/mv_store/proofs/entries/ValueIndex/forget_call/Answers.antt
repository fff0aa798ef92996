use Rattle.std.proofs.Common.{refl}
use Rattle.std.specs.Prelude.{◌==◌, ◌&&◌}
use Rattle.mv_chain.specs.Having.{patch_has}
use Rattle.mv_store.proofs.Indexing.{forgets_itself, forgets_more, forgets_all}
use Rattle.mv_store.proofs.entries.ValueIndex.forget_call.Goals as goal

pub loop-pending-init : goal.loop-pending-init
loop-pending-init g c = forgets_itself c.args.table c.args.key.now (g.K.Valued.versions c.args.kept.now) _ c.args.self.now (λ n v. refl)

pub loop-pending-preserved : goal.loop-pending-preserved
loop-pending-preserved g c =
    forgets_more c.args.table c.args.key.now (g.K.Valued.versions c.args.kept.now) (λ x n v. (x.call == c.args.call) && patch_has n v x.patch) c.args.own.now c.loop-pending.pending-index c.pending-item.result c.args.self.now c.loop-pending.self c.forget_pending.new.self c.loop-pending-test.true c.pending-item.is
    c.loop-pending.invariant c.forget_pending.ensures

pub returns : goal.returns
returns g c = forgets_all c.args.table c.args.key.now (g.K.Valued.versions c.args.kept.now) (λ x n v. (x.call == c.args.call) && patch_has n v x.patch) c.args.own.now c.loop-pending.pending-index c.args.self.now c.loop-pending.self c.loop-pending-test.false c.loop-pending.invariant
