use Rattle.std.proofs.Common.{◌≡◌, ◌∷◌, ℕ, List, Ok, OnOk, refl, sym, ap, subst, ◌∙◌, rules}
use Rattle.std.specs.List.{flat_map}
use Rattle.std.proofs.lemmas.Result.{on_ok_weaker}
use Rattle.mv_values.specs.declared.pred.Pred.{Pred}
use Rattle.mv_values.specs.declared.rows.Keyed.{Keyed}
use Rattle.mv_values.specs.declared.patch.Write.{Write}
use Rattle.mv_values.specs.declared.schema.TableInfo.{TableInfo}
use Rattle.mv_values.specs.Patching.{applied, found_by}
use Rattle.mv_values.specs.Tables.{KeysStand}
use Rattle.mv_catalog.specs.declared.resolved.RCond.{RCond}
use Rattle.mv_catalog.specs.declared.resolved.RSetItem.{RSetItem}
use Rattle.mv_catalog.specs.declared.resolved.RStmt.TheOpen.{Update}
use Rattle.mv_eval.specs.declared.state.Env.{Env}
use Rattle.mv_eval.specs.Rows.{is_some_row}
use Rattle.mv_log.specs.Logged.{Logged}
use Rattle.mv_recorded.specs.Asking.{Check, columns_in, on, first_fault, preds_up_to, update_checks}
use Rattle.mv_recorded.specs.Effects.{asks, changes, effect_unless, new_of}
use Rattle.mv_recorded.proofs.Checked.{update_plain}
use Rattle.mv_recorded.proofs.Told.{update_done}
use Rattle.mv_effect.specs.Seeing.{own_seen}
use Rattle.mv_view.specs.Viewing.{Sight}
use Rattle.mv_effect.specs.Looking.{different, AskedAtMost, AskedBy, AskedFor}
use Rattle.mv_effect.proofs.Asked.{asked_all, asked_first, none_asked_by}
use Rattle.mv_effect.proofs.Checking.{asked_unless}
use Rattle.mv_effect.proofs.Ends.{plain_after}
use Rattle.mv_effect.proofs.Few.{bytes_of}
use Rattle.mv_checks.proofs.Referring.{none_set}
use Rattle.mv_effect.specs.Asking.{asked}
use Rattle.mv_effect.proofs.OnePred.{effect_alone_then, ended_rest, err_then}
use Rattle.mv_effect.proofs.Seen.{seen_later, sees_later}
use Rattle.mv_effect.proofs.changes.update.Goals as goal

-- what is asked of rows that were found
asked_update : (tables : List TableInfo) (t : ℕ) (items : List RSetItem) (conds : List RCond) (env : Env) (ws : List Write) (pred : Pred) (rows : List Keyed) (before after : Sight) → KeysStand tables (applied ws before.database)
    → asks tables t conds (flat_map (λ i. columns_in i.right) items) env ≡ Ok pred → rows ≡ found_by pred (applied ws before.database)
    → AskedFor (pred ∷ preds_up_to (update_checks tables t items env rows) (applied ws before.database)) ws before after → AskedBy tables (Update t items conds) env ws before after
asked_update tables t items conds env ws pred rows before after stand is found asked =
    let db : List (List Keyed) = applied ws before.database in
    let cs : List Check = update_checks tables t items env rows in
    asked_unless tables (Update t items conds) env ws before after (first_fault cs db) (pred ∷ preds_up_to cs db) (is_some_row rows) (on (changes t items (new_of tables t env items) rows) (λ vs. vs))
    (update_done tables t items conds env db pred rows stand is found) asked

pub rows_asked-requires : goal.rows_asked-requires
rows_asked-requires g c =
    let before = (g.V.View.sight c.args.view.now).database in λ k. (
      (refl, tt),
      (c.in-Ok.ensures.one, (sees_later c.args.context.now c.args.log.now c.ask_update.new.log before before (ap (λ (l : Logged). l.records) c.in-Ok.ensures.rest) refl c.requires.stands, c.in-Ok.ensures.knows)),
    )

pub update_rows-requires : goal.update_rows-requires
update_rows-requires g c =
    let before = (g.V.View.sight c.args.view.now).database in
    let mid = (g.V.View.sight c.rows_asked.new.view).database in λ k. (
      (refl, tt),
      (
        sees_later c.args.context.now c.args.log.now c.ask_update.new.log before mid (ap (λ (l : Logged). l.records) c.in-Ok.ensures.rest) c.in_ok-rows.ensures.view.same.database c.requires.stands,
        (search rules, (bytes_of (λ (i : RSetItem). i.column) c.args.context.now.tables.now c.args.update.now.table c.args.update.now.items.now c.requires.stands.each c.requires.sets.columns, (c.requires.found, c.in-Ok.ensures.one))),
      ),
    )

pub set_rows-requires-clause-columns : goal.set_rows-requires-clause-columns
set_rows-requires-clause-columns g c = bytes_of (λ (i : RSetItem). i.column) c.args.context.now.tables.now c.args.update.now.table c.args.update.now.items.now c.requires.stands.each c.requires.sets.columns

-- a column with REFERENCES is set

pub returns-then-sets_reference-clause-effect : goal.returns-then-sets_reference-clause-effect
returns-then-sets_reference-clause-effect g c =
    let seen = seen_later c.args.context.now c.args.log.now c.ask_update.new.log (ap (λ (l : Logged). l.records) c.in-Ok.ensures.rest) in
    let tables = c.args.context.now.tables.now in
    let env = c.args.context.now.env.now in
    let ws = own_seen c.args.context.now c.args.log.now in
    let before = g.V.View.sight c.args.view.now in
    let mid = g.V.View.sight c.rows_asked.new.view in
    let t = c.args.update.now.table in
    let items = c.args.update.now.items.now in
    let db = applied ws before.database in
    let rows = c.in_ok-rows.rows in
    let made =
    λ (db : List (List Keyed)). effect_unless (first_fault (update_checks tables t items env rows) db) ((asked c.ask_update.new.log) ∷ preds_up_to (update_checks tables t items env rows) db) (is_some_row rows) (on (changes t items (new_of tables t env items) rows) (λ vs. vs)) env in
    let log : Logged = c.ask_update.new.log in
    let ok = subst (λ (d : List (List Keyed)). OnOk c.update_rows.result (c.update_rows.new.log ≡ record log { effect = made (applied ws d) })) c.in_ok-rows.ensures.view.same.database
    (subst (λ (vs : List Write). OnOk c.update_rows.result (c.update_rows.new.log ≡ record log { effect = made (applied vs mid.database) })) seen c.update_rows.ensures.ok) in
    on_ok_weaker c.update_rows.result (λ is lines. ap (λ (l : Logged). l.effect) is ∙ update_done tables t items c.args.update.now.conds.now env db (asked c.ask_update.new.log) rows c.requires.stands.behind c.in-Ok.ensures.asks (c.in_ok-rows.ensures.found ∙ ap (λ vs. found_by (asked c.ask_update.new.log) (applied vs before.database)) seen) lines) ok

pub returns-then-sets_reference-clause-rest : goal.returns-then-sets_reference-clause-rest
returns-then-sets_reference-clause-rest g c = on_ok_weaker c.update_rows.result (λ is. effect_alone_then c.args.log.now c.ask_update.new.log c.update_rows.new.log _ c.in-Ok.ensures.rest is) c.update_rows.ensures.ok

pub returns-then-sets_reference-clause-looks : goal.returns-then-sets_reference-clause-looks
returns-then-sets_reference-clause-looks g c =
    let seen = seen_later c.args.context.now c.args.log.now c.ask_update.new.log (ap (λ (l : Logged). l.records) c.in-Ok.ensures.rest) in
    let tables = c.args.context.now.tables.now in
    let env = c.args.context.now.env.now in
    let ws = own_seen c.args.context.now c.args.log.now in
    let before = g.V.View.sight c.args.view.now in
    let mid = g.V.View.sight c.rows_asked.new.view in
    let t = c.args.update.now.table in
    let items = c.args.update.now.items.now in
    let after = g.V.View.sight c.update_rows.new.view in
    let rows = c.in_ok-rows.rows in
    let ps = preds_up_to (update_checks tables t items env rows) (applied ws before.database) in
    let later = subst (λ (d : List (List Keyed)). AskedFor (preds_up_to (update_checks tables t items env rows) (applied ws d)) ws mid after) c.in_ok-rows.ensures.view.same.database
    (subst (λ (vs : List Write). AskedFor (preds_up_to (update_checks tables t items env rows) (applied vs mid.database)) vs mid after) seen c.update_rows.ensures.looks) in
    asked_update tables t items c.args.update.now.conds.now env ws (asked c.ask_update.new.log) rows before after c.requires.stands.behind c.in-Ok.ensures.asks (c.in_ok-rows.ensures.found ∙ ap (λ vs. found_by (asked c.ask_update.new.log) (applied vs before.database)) seen) (asked_all (asked c.ask_update.new.log) ps ws before mid after (subst (λ (vs : List Write). AskedAtMost 1 (different vs) before mid) seen c.in_ok-rows.ensures.looks) later)

-- none is set

pub returns-clause-effect : goal.returns-clause-effect
returns-clause-effect g c = λ lines.
    let seen = seen_later c.args.context.now c.args.log.now c.ask_update.new.log (ap (λ (l : Logged). l.records) c.in-Ok.ensures.rest) in
    let tables = c.args.context.now.tables.now in
    let env = c.args.context.now.env.now in
    let ws = own_seen c.args.context.now c.args.log.now in
    let before = g.V.View.sight c.args.view.now in
    let mid = g.V.View.sight c.rows_asked.new.view in
    let t = c.args.update.now.table in
    let items = c.args.update.now.items.now in
    let db = applied ws before.database in
    let rows = c.in_ok-rows.rows in
    let made =
    λ (db : List (List Keyed)). effect_unless (first_fault (update_checks tables t items env rows) db) ((asked c.ask_update.new.log) ∷ preds_up_to (update_checks tables t items env rows) db) (is_some_row rows) (on (changes t items (new_of tables t env items) rows) (λ vs. vs)) env in
    let plain = update_plain tables t db env items rows (none_set tables t items (sym c.sets_reference.ensures ∙ c.if-sets_reference.false)) in
    ap (λ (l : Logged). l.effect) c.in_ok-set_rows.ensures.ok
    ∙ (plain_after (asked c.ask_update.new.log) (changes t items (new_of tables t env items) rows) (first_fault (update_checks tables t items env rows) db) (preds_up_to (update_checks tables t items env rows) db) (is_some_row rows) env plain.0 plain.1
    ∙ update_done tables t items c.args.update.now.conds.now env db (asked c.ask_update.new.log) rows c.requires.stands.behind c.in-Ok.ensures.asks (c.in_ok-rows.ensures.found ∙ ap (λ vs. found_by (asked c.ask_update.new.log) (applied vs before.database)) seen) lines)

pub returns-clause-looks : goal.returns-clause-looks
returns-clause-looks g c =
    let seen = seen_later c.args.context.now c.args.log.now c.ask_update.new.log (ap (λ (l : Logged). l.records) c.in-Ok.ensures.rest) in
    let tables = c.args.context.now.tables.now in
    let env = c.args.context.now.env.now in
    let ws = own_seen c.args.context.now c.args.log.now in
    let before = g.V.View.sight c.args.view.now in
    let mid = g.V.View.sight c.rows_asked.new.view in
    let t = c.args.update.now.table in
    let items = c.args.update.now.items.now in
    let rows = c.in_ok-rows.rows in
    let ps = preds_up_to (update_checks tables t items env rows) (applied ws before.database) in
    asked_update tables t items c.args.update.now.conds.now env ws (asked c.ask_update.new.log) rows before mid c.requires.stands.behind c.in-Ok.ensures.asks (c.in_ok-rows.ensures.found ∙ ap (λ vs. found_by (asked c.ask_update.new.log) (applied vs before.database)) seen) (asked_first (asked c.ask_update.new.log) ps ws before mid (subst (λ (vs : List Write). AskedAtMost 1 (different vs) before mid) seen c.in_ok-rows.ensures.looks))

pub returns-in_err-set_rows-clause-looks : goal.returns-in_err-set_rows-clause-looks
returns-in_err-set_rows-clause-looks g c =
    let seen = seen_later c.args.context.now c.args.log.now c.ask_update.new.log (ap (λ (l : Logged). l.records) c.in-Ok.ensures.rest) in
    let tables = c.args.context.now.tables.now in
    let env = c.args.context.now.env.now in
    let ws = own_seen c.args.context.now c.args.log.now in
    let before = g.V.View.sight c.args.view.now in
    let mid = g.V.View.sight c.rows_asked.new.view in
    let t = c.args.update.now.table in
    let items = c.args.update.now.items.now in
    let rows = c.in_ok-rows.rows in
    let ps = preds_up_to (update_checks tables t items env rows) (applied ws before.database) in
    asked_update tables t items c.args.update.now.conds.now env ws (asked c.ask_update.new.log) rows before mid c.requires.stands.behind c.in-Ok.ensures.asks (c.in_ok-rows.ensures.found ∙ ap (λ vs. found_by (asked c.ask_update.new.log) (applied vs before.database)) seen) (asked_first (asked c.ask_update.new.log) ps ws before mid (subst (λ (vs : List Write). AskedAtMost 1 (different vs) before mid) seen c.in_ok-rows.ensures.looks))

-- the rows weren't found

pub returns-in_err-rows-clause-looks : goal.returns-in_err-rows-clause-looks
returns-in_err-rows-clause-looks g c =
    let seen = seen_later c.args.context.now c.args.log.now c.ask_update.new.log (ap (λ (l : Logged). l.records) c.in-Ok.ensures.rest) in
    let tables = c.args.context.now.tables.now in
    let env = c.args.context.now.env.now in
    let ws = own_seen c.args.context.now c.args.log.now in
    let before = g.V.View.sight c.args.view.now in
    let mid = g.V.View.sight c.rows_asked.new.view in
    let t = c.args.update.now.table in
    let items = c.args.update.now.items.now in
    let rows = found_by (asked c.ask_update.new.log) (applied ws before.database) in
    let ps = preds_up_to (update_checks tables t items env rows) (applied ws before.database) in
    asked_update tables t items c.args.update.now.conds.now env ws (asked c.ask_update.new.log) rows before mid c.requires.stands.behind c.in-Ok.ensures.asks refl (asked_first (asked c.ask_update.new.log) ps ws before mid (subst (λ (vs : List Write). AskedAtMost 1 (different vs) before mid) seen c.rows_asked.ensures.looks))

pub returns-in-Err-clause-looks : goal.returns-in-Err-clause-looks
returns-in-Err-clause-looks g c = none_asked_by c.args.context.now.tables.now (Update c.args.update.now.table c.args.update.now.items.now c.args.update.now.conds.now) c.args.context.now.env.now (own_seen c.args.context.now c.args.log.now) (g.V.View.sight c.args.view.now)

pub returns-in-Err-clause-view : goal.returns-in-Err-clause-view
returns-in-Err-clause-view g c = c.stop_after.ensures.view (g.V.View.sight c.args.view.now)

pub returns-in-Err-clause-rest : goal.returns-in-Err-clause-rest
returns-in-Err-clause-rest g c = on_ok_weaker c.stop_after.result (λ ends. ended_rest c.in-Err.reason c.args.log.now c.ask_update.new.log c.stop_after.new.log c.requires.blank c.in-Err.ensures.err ends) c.stop_after.ensures.ended

pub returns-in-Err-clause-err : goal.returns-in-Err-clause-err
returns-in-Err-clause-err g c = err_then c.stop_after.result c.args.log.now c.ask_update.new.log c.stop_after.new.log c.stop_after.ensures.err c.in-Err.ensures.err
