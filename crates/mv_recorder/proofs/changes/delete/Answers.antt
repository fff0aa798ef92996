use Rattle.std.proofs.Common.{List, map, ap, ◌++◌, ◌∙◌}
use Rattle.mv_values.specs.declared.patch.Patch.TheVariants.{Delete}
use Rattle.mv_values.specs.declared.pred.Pred.{Pred}
use Rattle.mv_values.specs.declared.rows.Keyed.{Keyed}
use Rattle.mv_table.specs.Entries.{seen}
use Rattle.mv_recorded.specs.Asking.{preds_up_to, delete_checks}
use Rattle.mv_recorded.specs.Doing.{write}
use Rattle.mv_recorder.proofs.Asking.{delete_is}
use Rattle.mv_recorder.proofs.changes.delete.Goals as goal

pub returns : goal.returns
returns c =
    let tables = c.args.scene.now.infos.now in
    let db = c.args.scene.now.tables.now in
    let rows = map seen c.as_slice-items.result.now in
    let found = ap (map seen) c.as_slice-items.ensures.value ∙ c.in_ok-found.ensures.rows in
    let writes = c.in_ok-writes.ensures ∙ ap (λ t. map (λ (item : Keyed). write t item.key Delete) rows) c.narrow.ensures in
    let asked = c.in_ok-fault.ensures.preds ∙ ap (λ (ps : List Pred). ps ++ preds_up_to (delete_checks tables c.args.table rows) db) c.in_ok-preds.ensures in
    delete_is tables c.args.table c.args.conds.now c.args.scene.now.env.now db c.in_ok-pred.pred rows c.in_ok-fault.fault c.check_deletion.new.preds c.in_ok-writes.writes c.is_any.result _ c.in_ok-checked.ensures c.in_ok-fault.ensures.fault asked c.is_any.ensures writes
    (c.requires.sound.tables.rising c.args.table) c.in_ok-pred.ensures.asks found
