use Rattle.std.proofs.Common.{refl}
use Rattle.mv_store.proofs.Indexing.{forgets_itself, forgets_at, forgets_all, row_in, row_gone}
use Rattle.mv_store.proofs.entries.forget_row.Goals as goal

pub loop-column-init : goal.loop-column-init
loop-column-init g c = forgets_itself c.args.table c.args.key.now (g.K.Valued.versions c.args.kept.now) _ c.args.index.now (λ n v. refl)

pub loop-column-preserved : goal.loop-column-preserved
loop-column-preserved g c =
    let w = g.K.Valued.versions c.args.kept.now in
    forgets_at c.args.table c.args.key.now w (λ x n v. row_in c.args.table c.args.key.now w c.args.row.now x n v) c.args.columns.now c.loop-column.column-index _ c.args.index.now c.loop-column.index c.forget_column.new.index c.loop-column-test.true c.loop-column.invariant
    c.forget_column.ensures

pub returns : goal.returns
returns g c =
    let w = g.K.Valued.versions c.args.kept.now in
    row_gone c.args.table c.args.key.now w c.args.row.now c.args.columns.now c.args.index.now c.loop-column.index
    (forgets_all c.args.table c.args.key.now w (λ x n v. row_in c.args.table c.args.key.now w c.args.row.now x n v) c.args.columns.now c.loop-column.column-index c.args.index.now c.loop-column.index c.loop-column-test.false c.loop-column.invariant)
