use Rattle.std.proofs.Common.{◌≡◌, ◌∷◌, [], ℕ, List, Ok, OnOk, map, refl, ap, subst, ◌∙◌, rules}
use Rattle.std.proofs.lemmas.Result.{on_ok_weaker}
use Rattle.mv_values.specs.declared.pred.Pred.{Pred}
use Rattle.mv_values.specs.declared.rows.Keyed.{Keyed}
use Rattle.mv_values.specs.declared.patch.Patch.TheVariants as patch
use Rattle.mv_values.specs.declared.patch.Write.{Write}
use Rattle.mv_values.specs.declared.schema.TableInfo.{TableInfo}
use Rattle.mv_values.specs.Keys.{IsRising}
use Rattle.mv_values.specs.Patching.{applied, found_by}
use Rattle.mv_values.specs.Tables.{rows_at}
use Rattle.mv_catalog.specs.declared.resolved.RCond.{RCond}
use Rattle.mv_catalog.specs.declared.resolved.RStmt.TheOpen.{Delete}
use Rattle.mv_eval.specs.declared.state.Env.{Env}
use Rattle.mv_eval.specs.Rows.{is_some_row}
use Rattle.mv_log.specs.Logged.{Logged}
use Rattle.mv_record.proofs.Patching.{rising_applied}
use Rattle.mv_recorded.specs.Asking.{Check, first_fault, preds_up_to, delete_checks}
use Rattle.mv_recorded.specs.Doing.{write}
use Rattle.mv_recorded.specs.Effects.{asks, effect_unless}
use Rattle.mv_recorded.proofs.Told.{delete_done}
use Rattle.mv_effect.specs.Seeing.{own_seen}
use Rattle.mv_view.specs.Viewing.{Sight}
use Rattle.mv_effect.specs.Looking.{different, AskedAtMost, AskedBy, AskedFor}
use Rattle.mv_effect.proofs.Asked.{asked_all, asked_first, none_asked_by}
use Rattle.mv_effect.proofs.Checking.{asked_unless}
use Rattle.mv_effect.specs.Asking.{asked}
use Rattle.mv_effect.proofs.OnePred.{effect_alone_then, ended_rest, err_then}
use Rattle.mv_effect.proofs.Seen.{seen_later, sees_later}
use Rattle.mv_effect.proofs.changes.delete.Goals as goal

-- what is asked of rows that were found
asked_delete : (tables : List TableInfo) (t : ℕ) (conds : List RCond) (env : Env) (ws : List Write) (pred : Pred) (rows : List Keyed) (before after : Sight) → IsRising (rows_at (applied ws before.database) t) → asks tables t conds [] env ≡ Ok pred
    → rows ≡ found_by pred (applied ws before.database) → AskedFor (pred ∷ preds_up_to (delete_checks tables t rows) (applied ws before.database)) ws before after → AskedBy tables (Delete t conds) env ws before after
asked_delete tables t conds env ws pred rows before after rises is found asked =
    let db : List (List Keyed) = applied ws before.database in
    let cs : List Check = delete_checks tables t rows in
    asked_unless tables (Delete t conds) env ws before after (first_fault cs db) (pred ∷ preds_up_to cs db) (is_some_row rows) (map (λ (item : Keyed). write t item.key patch.Delete) rows) (delete_done tables t conds env db pred rows rises is found) asked

pub rows_asked-requires : goal.rows_asked-requires
rows_asked-requires g c =
    let before = (g.V.View.sight c.args.view.now).database in λ k. (
      (refl, tt),
      (c.in-Ok.ensures.one, (sees_later c.args.context.now c.args.log.now c.ask_where.new.log before before (ap (λ (l : Logged). l.records) c.in-Ok.ensures.rest) refl c.requires.stands, c.in-Ok.ensures.knows)),
    )

pub delete_rows-requires : goal.delete_rows-requires
delete_rows-requires g c =
    let before = (g.V.View.sight c.args.view.now).database in
    let mid = (g.V.View.sight c.rows_asked.new.view).database in λ k. (
      (refl, tt),
      (
        sees_later c.args.context.now c.args.log.now c.ask_where.new.log before mid (ap (λ (l : Logged). l.records) c.in-Ok.ensures.rest) c.in_ok-rows.ensures.view.same.database c.requires.stands,
        (c.requires.found, (search rules, c.in-Ok.ensures.one)),
      ),
    )

pub returns-clause-effect : goal.returns-clause-effect
returns-clause-effect g c =
    let seen = seen_later c.args.context.now c.args.log.now c.ask_where.new.log (ap (λ (l : Logged). l.records) c.in-Ok.ensures.rest) in
    let tables = c.args.context.now.tables.now in
    let env = c.args.context.now.env.now in
    let ws = own_seen c.args.context.now c.args.log.now in
    let before = g.V.View.sight c.args.view.now in
    let mid = g.V.View.sight c.rows_asked.new.view in
    let t = c.args.table in
    let rows = c.in_ok-rows.rows in
    let made = λ (rows : List Keyed) (db : List (List Keyed)). effect_unless (first_fault (delete_checks tables t rows) db) ((asked c.ask_where.new.log) ∷ preds_up_to (delete_checks tables t rows) db) (is_some_row rows) (map (λ (item : Keyed). write t item.key patch.Delete) rows) env in
    let rises = rising_applied ws before.database c.requires.stands.database.rising t in
    let log : Logged = c.ask_where.new.log in
    let ok = subst (λ (d : List (List Keyed)). OnOk c.delete_rows.result (c.delete_rows.new.log ≡ record log { effect = made rows (applied ws d) })) c.in_ok-rows.ensures.view.same.database
    (subst (λ (vs : List Write). OnOk c.delete_rows.result (c.delete_rows.new.log ≡ record log { effect = made rows (applied vs mid.database) })) seen c.delete_rows.ensures.ok) in
    on_ok_weaker c.delete_rows.result
    (λ is lines. ap (λ (l : Logged). l.effect) is ∙ delete_done tables t c.args.conds.now env (applied ws before.database) (asked c.ask_where.new.log) rows rises c.in-Ok.ensures.asks (c.in_ok-rows.ensures.found ∙ ap (λ vs. found_by (asked c.ask_where.new.log) (applied vs before.database)) seen) lines) ok

pub returns-clause-rest : goal.returns-clause-rest
returns-clause-rest g c = on_ok_weaker c.delete_rows.result (λ is. effect_alone_then c.args.log.now c.ask_where.new.log c.delete_rows.new.log _ c.in-Ok.ensures.rest is) c.delete_rows.ensures.ok

pub returns-clause-looks : goal.returns-clause-looks
returns-clause-looks g c =
    let seen = seen_later c.args.context.now c.args.log.now c.ask_where.new.log (ap (λ (l : Logged). l.records) c.in-Ok.ensures.rest) in
    let tables = c.args.context.now.tables.now in
    let env = c.args.context.now.env.now in
    let ws = own_seen c.args.context.now c.args.log.now in
    let before = g.V.View.sight c.args.view.now in
    let mid = g.V.View.sight c.rows_asked.new.view in
    let t = c.args.table in
    let rises = rising_applied ws before.database c.requires.stands.database.rising t in
    let after = g.V.View.sight c.delete_rows.new.view in
    let rows = c.in_ok-rows.rows in
    let ps = preds_up_to (delete_checks tables t rows) (applied ws before.database) in
    let later = subst (λ (d : List (List Keyed)). AskedFor (preds_up_to (delete_checks tables t rows) (applied ws d)) ws mid after) c.in_ok-rows.ensures.view.same.database
    (subst (λ (vs : List Write). AskedFor (preds_up_to (delete_checks tables t rows) (applied vs mid.database)) vs mid after) seen c.delete_rows.ensures.looks) in
    asked_delete tables t c.args.conds.now env ws (asked c.ask_where.new.log) rows before after rises c.in-Ok.ensures.asks (c.in_ok-rows.ensures.found ∙ ap (λ vs. found_by (asked c.ask_where.new.log) (applied vs before.database)) seen)
    (asked_all (asked c.ask_where.new.log) ps ws before mid after (subst (λ (vs : List Write). AskedAtMost 1 (different vs) before mid) seen c.in_ok-rows.ensures.looks) later)

pub returns-in_err-rows-clause-looks : goal.returns-in_err-rows-clause-looks
returns-in_err-rows-clause-looks g c =
    let seen = seen_later c.args.context.now c.args.log.now c.ask_where.new.log (ap (λ (l : Logged). l.records) c.in-Ok.ensures.rest) in
    let tables = c.args.context.now.tables.now in
    let env = c.args.context.now.env.now in
    let ws = own_seen c.args.context.now c.args.log.now in
    let before = g.V.View.sight c.args.view.now in
    let mid = g.V.View.sight c.rows_asked.new.view in
    let t = c.args.table in
    let rises = rising_applied ws before.database c.requires.stands.database.rising t in
    let rows = found_by (asked c.ask_where.new.log) (applied ws before.database) in
    let ps = preds_up_to (delete_checks tables t rows) (applied ws before.database) in
    asked_delete tables t c.args.conds.now env ws (asked c.ask_where.new.log) rows before mid rises c.in-Ok.ensures.asks refl (asked_first (asked c.ask_where.new.log) ps ws before mid (subst (λ (vs : List Write). AskedAtMost 1 (different vs) before mid) seen c.rows_asked.ensures.looks))

pub returns-in-Err-clause-looks : goal.returns-in-Err-clause-looks
returns-in-Err-clause-looks g c = none_asked_by c.args.context.now.tables.now (Delete c.args.table c.args.conds.now) c.args.context.now.env.now (own_seen c.args.context.now c.args.log.now) (g.V.View.sight c.args.view.now)

pub returns-in-Err-clause-view : goal.returns-in-Err-clause-view
returns-in-Err-clause-view g c = c.stop_after.ensures.view (g.V.View.sight c.args.view.now)

pub returns-in-Err-clause-rest : goal.returns-in-Err-clause-rest
returns-in-Err-clause-rest g c = on_ok_weaker c.stop_after.result (λ ends. ended_rest c.in-Err.reason c.args.log.now c.ask_where.new.log c.stop_after.new.log c.requires.blank c.in-Err.ensures.err ends) c.stop_after.ensures.ended

pub returns-in-Err-clause-err : goal.returns-in-Err-clause-err
returns-in-Err-clause-err g c = err_then c.stop_after.result c.args.log.now c.ask_where.new.log c.stop_after.new.log c.stop_after.ensures.err c.in-Err.ensures.err
