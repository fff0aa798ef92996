use Rattle.std.proofs.Common.{rules, ◌≡◌, map, ap, to_z, of_z, w64, ◌∙◌}
use Rattle.std.proofs.lemmas.Result.{err_from_is_err_and}
use Rattle.std.specs.Option.{option_copied, option_map}
use Rattle.mv_eval.specs.Rows.{item_at, ordered}
use Rattle.mv_table.specs.Entries.{seen}
use Rattle.mv_recorder.proofs.Asking.{number_is, select_is, select_stops, offset_stops}
use Rattle.mv_recorder.proofs.queries.select.Goals as goal

pub returns : goal.returns
returns c =
    let sorts = c.args.query.now.sorts.now in
    let at = c.number_in.result in
    let cast : to_z w64 (of_z w64 c.number_in.result) ≡ c.number_in.result = search rules in
    let chosen = c.in_ok-item.ensures ∙ ap (item_at (ordered c.args.query.now.sorts.now (map seen c.as_slice-items.result.now))) cast in
    let found = ap (map seen) c.as_slice-items.ensures.value ∙ c.in_ok-found.ensures.rows in
    select_is c.args.scene.now.infos.now c.args.query.now.columns.now c.args.to.now c.args.query.now.table c.args.query.now.conds.now sorts c.args.at.now c.args.scene.now.env.now c.args.scene.now.tables.now c.in_ok-pred.pred at
    (map seen c.as_slice-items.result.now) (option_map seen (option_copied c.in_ok-item.item)) _ c.in_ok-selected.ensures c.in_ok-pred.ensures.asks
    (number_is c.args.at.now c.args.scene.now.env.now c.in_ok-place.place at c.in_ok-place.ensures c.number_in.ensures) found chosen

pub returns-in_err-pred : goal.returns-in_err-pred
returns-in_err-pred c =
    let p = err_from_is_err_and c.from_residual.result c.from_residual.ensures.1 in
    rw (p.1, p.2)
    (select_stops c.args.scene.now.infos.now c.args.query.now.columns.now c.args.to.now c.args.query.now.table c.args.query.now.conds.now c.args.query.now.sorts.now c.args.at.now c.args.scene.now.env.now c.args.scene.now.tables.now c.in_err-pred.field-0.0 c.in_err-pred.ensures.asks)

pub returns-in_err-place : goal.returns-in_err-place
returns-in_err-place c =
    let p = err_from_is_err_and c.from_residual-in_err-place.result c.from_residual-in_err-place.ensures.1 in
    rw (p.1, p.2)
    (offset_stops c.args.scene.now.infos.now c.args.query.now.columns.now c.args.to.now c.args.query.now.table c.args.query.now.conds.now c.args.query.now.sorts.now c.args.at.now c.args.scene.now.env.now c.args.scene.now.tables.now c.in_ok-pred.pred c.in_err-place.field-0.0 c.in_ok-pred.ensures.asks c.in_err-place.ensures)
