use Rattle.std.proofs.Common.{map, ap, ◌∙◌}
use Rattle.mv_table.specs.Entries.{seen}
use Rattle.mv_recorder.proofs.Asking.{for_is}
use Rattle.mv_recorder.proofs.queries.for_select.Goals as goal

pub returns : goal.returns
returns c =
    let found = ap (map seen) c.as_slice-items.ensures.value ∙ c.in_ok-found.ensures.rows in
    λ row body.
    for_is c.args.scene.now.infos.now row c.args.once c.args.query.now.columns.now c.args.query.now.table c.args.query.now.conds.now c.args.query.now.sorts.now body c.args.scene.now.env.now c.args.scene.now.tables.now c.in_ok-pred.pred (map seen c.as_slice-items.result.now) c.in_ok-rows.rows _ c.in_ok-looped.ensures c.in_ok-rows.ensures c.in_ok-pred.ensures.asks found
