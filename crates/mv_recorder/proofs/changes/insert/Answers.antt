use Rattle.std.proofs.Common.{◌∷◌, [], true, sym, ap, subst, ◌∙◌}
use Rattle.mv_values.specs.declared.rows.Keyed.{Keyed}
use Rattle.mv_values.specs.declared.patch.Patch.TheVariants as patch
use Rattle.mv_catalog.specs.declared.resolved.RStmt.TheOpen.{Insert}
use Rattle.mv_eval.specs.Changes.{new_row, keyed}
use Rattle.mv_recorded.specs.Asking.{first_fault, preds_up_to}
use Rattle.mv_recorded.specs.Doing.{write}
use Rattle.mv_recorded.specs.Effects.{IsEffect, effect_unless}
use Rattle.mv_recorded.proofs.Told.{insert_done}
use Rattle.mv_checks.specs.Checking.{row_checks}
use Rattle.mv_recorder.proofs.changes.insert.Goals as goal

pub returns : goal.returns
returns c =
    let tables = c.args.scene.now.infos.now in
    let env = c.args.scene.now.env.now in
    let db = c.args.scene.now.tables.now in
    let t = c.args.table in
    let made = ap (λ cs. new_row cs c.args.exprs.now env) (sym c.columns_in.ensures) ∙ c.in_ok-row.ensures in
    let is = c.in_ok-item.ensures ∙ ap (λ ks. keyed ks c.in_ok-row.row) c.key_in.ensures in
    let effect = λ (item : Keyed). effect_unless (first_fault (row_checks tables t item) db) (preds_up_to (row_checks tables t item) db) true (write t item.key (patch.Insert item.row) ∷ []) env in
    subst (IsEffect tables (Insert t c.args.exprs.now) env db) (sym (c.in_ok-inserted.ensures ∙ ap effect is)) (insert_done tables t c.args.exprs.now env db c.in_ok-row.row c.requires.sound.tables.keys (c.requires.sound.tables.rising t) made)
