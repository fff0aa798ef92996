use Rattle.std.proofs.Common.{List, map, sym, ap, ◌++◌, ◌∙◌}
use Rattle.mv_values.specs.declared.pred.Pred.{Pred}
use Rattle.mv_catalog.specs.declared.resolved.RSetItem.{RSetItem}
use Rattle.mv_table.specs.Entries.{seen}
use Rattle.mv_recorded.specs.Asking.{first_fault, preds_up_to, update_checks}
use Rattle.mv_recorded.specs.Effects.{changes, new_of}
use Rattle.mv_recorded.proofs.Checked.{update_checked}
use Rattle.mv_checks.proofs.Running.{follows_on}
use Rattle.mv_recorder.proofs.Few.{bytes_of}
use Rattle.mv_recorder.proofs.Asking.{update_is, update_ends, update_goes}
use Rattle.mv_recorder.proofs.changes.update.Goals as goal

pub writes_for-requires-clause-columns : goal.writes_for-requires-clause-columns
writes_for-requires-clause-columns c = bytes_of (λ (i : RSetItem). i.column) c.args.scene.now.infos.now c.args.update.now.table c.args.update.now.items.now c.requires.sound.tables.each c.requires.sets.columns

pub returns-in-Some : goal.returns-in-Some
returns-in-Some c =
    let tables = c.args.scene.now.infos.now in
    let env = c.args.scene.now.env.now in
    let db = c.args.scene.now.tables.now in
    let t = c.args.update.now.table in
    let items = c.args.update.now.items.now in
    let rows = map seen c.as_slice-items.result.now in
    let found = ap (map seen) c.as_slice-items.ensures.value ∙ c.in_ok-found.ensures.rows in
    let asked = c.in_ok-end.ensures.preds ∙ ap (λ (ps : List Pred). ps ++ preds_up_to (update_checks tables t items env rows) db) c.in_ok-preds.ensures in
    update_ends tables t items c.args.update.now.conds.now env db c.in_ok-pred.pred rows c.check_update.new.preds c.in-Some.end _ c.ended_after.ensures (sym c.in-Some.is ∙ c.in_ok-end.ensures.fault) asked c.requires.sound.tables.keys
    c.in_ok-pred.ensures.asks found

pub returns-in-Ok : goal.returns-in-Ok
returns-in-Ok c =
    let tables = c.args.scene.now.infos.now in
    let env = c.args.scene.now.env.now in
    let db = c.args.scene.now.tables.now in
    let t = c.args.update.now.table in
    let items = c.args.update.now.items.now in
    let rows = map seen c.as_slice-items.result.now in
    let found = ap (map seen) c.as_slice-items.ensures.value ∙ c.in_ok-found.ensures.rows in
    let asked = c.in_ok-end.ensures.preds ∙ ap (λ (ps : List Pred). ps ++ preds_up_to (update_checks tables t items env rows) db) c.in_ok-preds.ensures in
    update_is tables t items c.args.update.now.conds.now env db c.in_ok-pred.pred rows c.check_update.new.preds c.in-Ok.writes c.is_any.result _ c.in_ok-changed-in-Ok.ensures c.is_any.ensures (sym c.in_default.is ∙ c.in_ok-end.ensures.fault) asked c.requires.sound.tables.keys
    c.in_ok-pred.ensures.asks found c.in-Ok.ensures

pub returns : goal.returns
returns c =
    let tables = c.args.scene.now.infos.now in
    let env = c.args.scene.now.env.now in
    let db = c.args.scene.now.tables.now in
    let t = c.args.update.now.table in
    let items = c.args.update.now.items.now in
    let rows = map seen c.as_slice-items.result.now in
    update_goes _ (changes t items (new_of tables t env items) rows) c.in-Err.stop c.in-Err.ensures
    (follows_on (first_fault (update_checks tables t items env rows) db) _ (changes t items (new_of tables t env items) rows) (update_checked tables t db env items rows c.requires.sound.tables.keys) (sym c.in_default.is ∙ c.in_ok-end.ensures.fault))
