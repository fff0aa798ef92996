use Rattle.std.proofs.Common.{◌∷◌, [], List, Result, true, sym, ap, subst, ◌∙◌}
use Rattle.std.proofs.lemmas.Result.{on_ok_weaker}
use Rattle.mv_values.specs.declared.value.Value.{Value}
use Rattle.mv_values.specs.declared.rows.Keyed.{Keyed}
use Rattle.mv_values.specs.declared.patch.Patch.TheVariants as patch
use Rattle.mv_values.specs.declared.calls.End.{End}
use Rattle.mv_values.specs.Patching.{applied}
use Rattle.mv_catalog.specs.declared.resolved.RStmt.TheOpen.{Insert}
use Rattle.mv_eval.specs.Changes.{new_row, keyed}
use Rattle.mv_log.specs.Logged.{Logged}
use Rattle.mv_record.proofs.Patching.{rising_applied}
use Rattle.mv_recorded.specs.Asking.{on, first_fault, preds_up_to, insert_checks}
use Rattle.mv_recorded.specs.Doing.{write}
use Rattle.mv_recorded.specs.Effects.{IsEffect, effect_unless}
use Rattle.mv_recorded.proofs.Told.{insert_done}
use Rattle.mv_effect.specs.Seeing.{own_seen}
use Rattle.mv_checks.specs.Checking.{row_checks}
use Rattle.mv_effect.specs.Looking.{AskedFor}
use Rattle.mv_effect.proofs.Asked.{none_asked_by}
use Rattle.mv_effect.proofs.Ends.{effect_alone}
use Rattle.mv_effect.proofs.changes.insert.Goals as goal

pub returns-clause-effect : goal.returns-clause-effect
returns-clause-effect g c =
    let tables = c.args.context.now.tables.now in
    let env = c.args.context.now.env.now in
    let ws = own_seen c.args.context.now c.args.log.now in
    let before = (g.V.View.sight c.args.view.now).database in
    let db = applied ws before in
    let made = ap (λ cs. new_row cs c.args.exprs.now env) (sym c.columns_in.ensures) ∙ c.in-Ok.ensures in
    let is = c.in_ok-item.ensures ∙ ap (λ ks. keyed ks c.in-Ok.row) c.key_in.ensures in
    let done =
    subst (λ (item : Keyed). IsEffect tables (Insert c.args.table c.args.exprs.now) env db (effect_unless (first_fault (row_checks tables c.args.table item) db) (preds_up_to (row_checks tables c.args.table item) db) true (write c.args.table item.key (patch.Insert item.row) ∷ []) env))
    (sym is) (insert_done tables c.args.table c.args.exprs.now env db c.in-Ok.row c.requires.stands.behind (rising_applied ws before c.requires.stands.database.rising c.args.table) made) in
    on_ok_weaker c.insert_row.result (λ same lines. ap (λ (l : Logged). l.effect) same ∙ done lines) c.insert_row.ensures.ok

pub returns-clause-rest : goal.returns-clause-rest
returns-clause-rest g c = on_ok_weaker c.insert_row.result (λ is. effect_alone c.args.log.now c.insert_row.new.log _ is) c.insert_row.ensures.ok

pub returns-clause-looks : goal.returns-clause-looks
returns-clause-looks g c = λ lines.
    let tables = c.args.context.now.tables.now in
    let env = c.args.context.now.env.now in
    let ws = own_seen c.args.context.now c.args.log.now in
    let before = g.V.View.sight c.args.view.now in
    let after = g.V.View.sight c.insert_row.new.view in
    let db = applied ws before.database in
    let made = ap (λ cs. new_row cs c.args.exprs.now env) (sym c.columns_in.ensures) ∙ c.in-Ok.ensures in
    let is = c.in_ok-item.ensures ∙ ap (λ ks. keyed ks c.in-Ok.row) c.key_in.ensures in
    subst (λ (r : Result (List Value) End). AskedFor (on r (λ row. preds_up_to (insert_checks tables c.args.table row) db)) ws before after) (sym made)
    (subst (λ (item : Keyed). AskedFor (preds_up_to (row_checks tables c.args.table item) db) ws before after) is c.insert_row.ensures.looks)

pub returns-in_err-item-clause-looks : goal.returns-in_err-item-clause-looks
returns-in_err-item-clause-looks g c = none_asked_by c.args.context.now.tables.now (Insert c.args.table c.args.exprs.now) c.args.context.now.env.now (own_seen c.args.context.now c.args.log.now) (g.V.View.sight c.args.view.now)

pub returns-in-Err-clause-looks : goal.returns-in-Err-clause-looks
returns-in-Err-clause-looks g c = none_asked_by c.args.context.now.tables.now (Insert c.args.table c.args.exprs.now) c.args.context.now.env.now (own_seen c.args.context.now c.args.log.now) (g.V.View.sight c.args.view.now)

pub returns-in-Err-clause-view : goal.returns-in-Err-clause-view
returns-in-Err-clause-view g c = c.stop_unasked.ensures.view (g.V.View.sight c.args.view.now)
