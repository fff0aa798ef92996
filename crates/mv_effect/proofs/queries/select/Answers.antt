use Rattle.std.proofs.Common.{rules, ◌≡◌, ◌∙◌, ap, refl, sym, to_z, of_z, List, OnOk, subst}
use mir.Syntax.{w64}
use Rattle.std.proofs.lemmas.Result.{on_ok_weaker}
use Rattle.mv_values.specs.Patching.{applied, found_by}
use Rattle.mv_catalog.specs.declared.resolved.RStmt.TheOpen.{Select}
use Rattle.mv_eval.specs.Rows.{item_at, ordered}
use Rattle.mv_log.specs.Logged.{Logged}
use Rattle.mv_recorded.specs.Asking.{with_sorts}
use Rattle.mv_effect.specs.Seeing.{own_seen}
use Rattle.mv_recorded.specs.Effects.{asks, effect_of_select, row_number}
use Rattle.mv_effect.proofs.Asked.{asked_by_one, none_asked_by}
use Rattle.mv_effect.proofs.Told.{select_found_done}
use Rattle.mv_effect.proofs.Ends.{select_ends}
use Rattle.mv_recorded.proofs.Chosen.{both_asked}
use Rattle.mv_effect.specs.Asking.{asked}
use Rattle.mv_effect.specs.Logging.{without_effect}
use Rattle.mv_effect.proofs.OnePred.{effect_alone_then, ended_rest, err_then}
use Rattle.mv_values.specs.declared.patch.Write.{Write}
use Rattle.mv_effect.specs.Looking.{different, AskedAtMost}
use Rattle.mv_effect.proofs.Seen.{seen_later, sees_later}
use Rattle.mv_effect.proofs.queries.select.Goals as goal

pub select_asked-requires : goal.select_asked-requires
select_asked-requires g c =
    let before = (g.V.View.sight c.args.view.now).database in λ k. (
      (refl, tt),
      (sees_later c.args.context.now c.args.log.now c.row_query.new.log before before (ap (λ (l : Logged). l.records) c.in-Ok.ensures.rest) refl c.requires.stands, (c.requires.found, (c.in-Ok.ensures.one, c.in-Ok.ensures.knows))),
    )

pub returns-clause-effect : goal.returns-clause-effect
returns-clause-effect g c =
    let seen = seen_later c.args.context.now c.args.log.now c.row_query.new.log (ap (λ (l : Logged). l.records) c.in-Ok.ensures.rest) in
    let tables = c.args.context.now.tables.now in
    let env = c.args.context.now.env.now in
    let db = applied (own_seen c.args.context.now c.args.log.now) (g.V.View.sight c.args.view.now).database in
    let both = both_asked (asks tables c.args.query.now.table c.args.query.now.conds.now (with_sorts c.args.query.now.columns.now c.args.query.now.sorts.now) env) (row_number c.args.at.now env) (asked c.row_query.new.log, c.in-Ok.at) (sym c.in-Ok.ensures.asks) in
    let at : to_z w64 (of_z w64 c.in-Ok.at) ≡ c.in-Ok.at = search rules in
    let log : Logged = c.row_query.new.log in
    on_ok_weaker c.select_asked.result
    (λ is lines.
    ap (λ (l : Logged). l.effect) is
    ∙ (ap (λ n. effect_of_select (asked c.row_query.new.log) c.args.query.now.columns.now c.args.to.now (item_at (ordered c.args.query.now.sorts.now (found_by (asked c.row_query.new.log) db)) n) env) at
    ∙ select_found_done tables c.args.query.now.columns.now c.args.to.now c.args.query.now.table c.args.query.now.conds.now c.args.query.now.sorts.now c.args.at.now env db (asked c.row_query.new.log) c.in-Ok.at both.0 both.1 lines))
    (subst (λ (vs : List Write). OnOk c.select_asked.result (c.select_asked.new.log ≡ record log { effect = effect_of_select (asked log) c.args.query.now.columns.now c.args.to.now (item_at (ordered c.args.query.now.sorts.now (found_by (asked log) (applied vs (g.V.View.sight c.args.view.now).database))) (to_z w64 (of_z w64 c.in-Ok.at))) env })) seen c.select_asked.ensures.effect)

pub returns-clause-looks : goal.returns-clause-looks
returns-clause-looks g c =
    let seen = seen_later c.args.context.now c.args.log.now c.row_query.new.log (ap (λ (l : Logged). l.records) c.in-Ok.ensures.rest) in
    let tables = c.args.context.now.tables.now in
    let env = c.args.context.now.env.now in
    let ws = own_seen c.args.context.now c.args.log.now in
    let before = g.V.View.sight c.args.view.now in
    let both = both_asked (asks tables c.args.query.now.table c.args.query.now.conds.now (with_sorts c.args.query.now.columns.now c.args.query.now.sorts.now) env) (row_number c.args.at.now env) (asked c.row_query.new.log, c.in-Ok.at) (sym c.in-Ok.ensures.asks) in
    asked_by_one tables (Select c.args.query.now.columns.now c.args.to.now c.args.query.now.table c.args.query.now.conds.now c.args.query.now.sorts.now c.args.at.now) env ws before (g.V.View.sight c.select_asked.new.view) _ (asked c.row_query.new.log)
    (select_found_done tables c.args.query.now.columns.now c.args.to.now c.args.query.now.table c.args.query.now.conds.now c.args.query.now.sorts.now c.args.at.now env (applied ws before.database) (asked c.row_query.new.log) c.in-Ok.at both.0 both.1) refl (subst (λ (vs : List Write). AskedAtMost 1 (different vs) before (g.V.View.sight c.select_asked.new.view)) seen c.select_asked.ensures.looks)

pub returns-in-Err-clause-looks : goal.returns-in-Err-clause-looks
returns-in-Err-clause-looks g c = none_asked_by c.args.context.now.tables.now (Select c.args.query.now.columns.now c.args.to.now c.args.query.now.table c.args.query.now.conds.now c.args.query.now.sorts.now c.args.at.now) c.args.context.now.env.now (own_seen c.args.context.now c.args.log.now) (g.V.View.sight c.args.view.now)

pub returns-clause-rest : goal.returns-clause-rest
returns-clause-rest g c = on_ok_weaker c.select_asked.result (λ is. effect_alone_then c.args.log.now c.row_query.new.log c.select_asked.new.log _ c.in-Ok.ensures.rest is) c.select_asked.ensures.effect

pub returns-in-Err-clause-effect : goal.returns-in-Err-clause-effect
returns-in-Err-clause-effect g c =
    on_ok_weaker c.stop_after.result
    (λ ends.
    select_ends c.args.context.now.tables.now c.args.query.now.columns.now c.args.to.now c.args.query.now.table c.args.query.now.conds.now c.args.query.now.sorts.now c.args.at.now c.args.context.now.env.now
    (applied (own_seen c.args.context.now c.args.log.now) (g.V.View.sight c.args.view.now).database) c.in-Err.reason (without_effect c.row_query.new.log) c.stop_after.new.log c.in-Err.ensures.asks ends)
    c.stop_after.ensures.ended

pub returns-in-Err-clause-view : goal.returns-in-Err-clause-view
returns-in-Err-clause-view g c = c.stop_after.ensures.view (g.V.View.sight c.args.view.now)

pub returns-in-Err-clause-rest : goal.returns-in-Err-clause-rest
returns-in-Err-clause-rest g c = on_ok_weaker c.stop_after.result (λ ends. ended_rest c.in-Err.reason c.args.log.now c.row_query.new.log c.stop_after.new.log c.requires.blank c.in-Err.ensures.err ends) c.stop_after.ensures.ended

pub returns-in-Err-clause-err : goal.returns-in-Err-clause-err
returns-in-Err-clause-err g c = err_then c.stop_after.result c.args.log.now c.row_query.new.log c.stop_after.new.log c.stop_after.ensures.err c.in-Err.ensures.err
