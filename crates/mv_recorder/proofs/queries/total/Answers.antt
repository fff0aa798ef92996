use Rattle.std.proofs.Common.{map, ap, ◌∙◌}
use Rattle.mv_table.specs.Entries.{seen}
use Rattle.mv_recorder.proofs.Asking.{total_is, total_ends}
use Rattle.mv_recorder.proofs.queries.total.Goals as goal

pub returns-in-Ok : goal.returns-in-Ok
returns-in-Ok c =
    let found = ap (map seen) c.as_slice-items.ensures.value ∙ c.in_ok-found.ensures.rows in
    total_is c.args.scene.now.infos.now c.args.agg c.args.to c.args.table c.args.conds.now c.args.scene.now.env.now c.args.scene.now.tables.now c.in_ok-pred.pred (map seen c.as_slice-items.result.now) c.in-Ok.total c.is_any.result _ c.in_ok-summed-in-Ok.ensures c.is_any.ensures c.in_ok-pred.ensures.asks found c.in-Ok.ensures

pub returns : goal.returns
returns c =
    let found = ap (map seen) c.as_slice-items.ensures.value ∙ c.in_ok-found.ensures.rows in
    total_ends c.args.scene.now.infos.now c.args.agg c.args.to c.args.table c.args.conds.now c.args.scene.now.env.now c.args.scene.now.tables.now c.in_ok-pred.pred (map seen c.as_slice-items.result.now) c.in-Err.stop _ c.in_ok-stopped_after-in-Err.ensures c.in_ok-pred.ensures.asks found c.in-Err.ensures
