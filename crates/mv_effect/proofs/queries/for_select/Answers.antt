use Rattle.std.proofs.Common.{ap, refl, ◌∙◌, List, subst}
use Rattle.std.proofs.lemmas.Result.{on_ok_weaker}
use Rattle.mv_values.specs.Patching.{applied, found_by}
use Rattle.mv_catalog.specs.declared.resolved.RStmt.TheOpen.{ForSelect}
use Rattle.mv_log.specs.Logged.{Logged}
use Rattle.mv_effect.specs.Seeing.{own_seen}
use Rattle.mv_effect.proofs.Asked.{asked_by_one, none_asked_by}
use Rattle.mv_recorded.proofs.Chosen.{for_goes}
use Rattle.mv_effect.specs.Asking.{asked}
use Rattle.mv_effect.proofs.OnePred.{ended_rest, err_then}
use Rattle.mv_values.specs.declared.patch.Write.{Write}
use Rattle.mv_effect.specs.Looking.{different, AskedAtMost}
use Rattle.mv_effect.proofs.Seen.{seen_later, sees_later}
use Rattle.mv_effect.proofs.queries.for_select.Goals as goal

pub rows_asked-requires : goal.rows_asked-requires
rows_asked-requires g c =
    let before = (g.V.View.sight c.args.view.now).database in λ k. (
      (refl, tt),
      (c.in-Ok.ensures.one, (sees_later c.args.context.now c.args.log.now c.ask_select.new.log before before (ap (λ (l : Logged). l.records) c.in-Ok.ensures.rest) refl c.requires.stands, c.in-Ok.ensures.knows)),
    )

pub returns-clause-effect : goal.returns-clause-effect
returns-clause-effect g c = λ row body lines.
    let seen = seen_later c.args.context.now c.args.log.now c.ask_select.new.log (ap (λ (l : Logged). l.records) c.in-Ok.ensures.rest) in
    let tables = c.args.context.now.tables.now in
    let env = c.args.context.now.env.now in
    let db = applied (own_seen c.args.context.now c.args.log.now) (g.V.View.sight c.args.view.now).database in
    let found =
    c.as_slice.ensures.items ∙ (c.in_ok-rows.ensures.found ∙ ap (λ vs. found_by (asked c.ask_select.new.log) (applied vs (g.V.View.sight c.args.view.now).database)) seen) in
    ap (λ (l : Logged). l.effect) c.in_ok-loop_rows.ensures.ok
    ∙ for_goes tables row c.args.once c.args.query.now.columns.now c.args.query.now.table c.args.query.now.conds.now c.args.query.now.sorts.now body env db (asked c.ask_select.new.log) c.as_slice.result.now c.in-Ok.ensures.asks found lines

pub returns-clause-looks : goal.returns-clause-looks
returns-clause-looks g c = λ row body.
    let seen = seen_later c.args.context.now c.args.log.now c.ask_select.new.log (ap (λ (l : Logged). l.records) c.in-Ok.ensures.rest) in
    let tables = c.args.context.now.tables.now in
    let env = c.args.context.now.env.now in
    let ws = own_seen c.args.context.now c.args.log.now in
    let before = g.V.View.sight c.args.view.now in
    let db = applied ws before.database in
    asked_by_one tables (ForSelect row c.args.once c.args.query.now.columns.now c.args.query.now.table c.args.query.now.conds.now c.args.query.now.sorts.now body) env ws before (g.V.View.sight c.rows_asked.new.view) _ (asked c.ask_select.new.log) (for_goes tables row c.args.once c.args.query.now.columns.now c.args.query.now.table c.args.query.now.conds.now c.args.query.now.sorts.now body env db (asked c.ask_select.new.log) (found_by (asked c.ask_select.new.log) db) c.in-Ok.ensures.asks refl) refl (subst (λ (vs : List Write). AskedAtMost 1 (different vs) before (g.V.View.sight c.rows_asked.new.view)) seen c.in_ok-rows.ensures.looks)

pub returns-in_err-loop_rows-clause-looks : goal.returns-in_err-loop_rows-clause-looks
returns-in_err-loop_rows-clause-looks g c = λ row body.
    let seen = seen_later c.args.context.now c.args.log.now c.ask_select.new.log (ap (λ (l : Logged). l.records) c.in-Ok.ensures.rest) in
    let tables = c.args.context.now.tables.now in
    let env = c.args.context.now.env.now in
    let ws = own_seen c.args.context.now c.args.log.now in
    let before = g.V.View.sight c.args.view.now in
    let db = applied ws before.database in
    asked_by_one tables (ForSelect row c.args.once c.args.query.now.columns.now c.args.query.now.table c.args.query.now.conds.now c.args.query.now.sorts.now body) env ws before (g.V.View.sight c.rows_asked.new.view) _ (asked c.ask_select.new.log) (for_goes tables row c.args.once c.args.query.now.columns.now c.args.query.now.table c.args.query.now.conds.now c.args.query.now.sorts.now body env db (asked c.ask_select.new.log) (found_by (asked c.ask_select.new.log) db) c.in-Ok.ensures.asks refl) refl (subst (λ (vs : List Write). AskedAtMost 1 (different vs) before (g.V.View.sight c.rows_asked.new.view)) seen c.in_ok-rows.ensures.looks)

pub returns-in_err-rows-clause-looks : goal.returns-in_err-rows-clause-looks
returns-in_err-rows-clause-looks g c = λ row body.
    let seen = seen_later c.args.context.now c.args.log.now c.ask_select.new.log (ap (λ (l : Logged). l.records) c.in-Ok.ensures.rest) in
    let tables = c.args.context.now.tables.now in
    let env = c.args.context.now.env.now in
    let ws = own_seen c.args.context.now c.args.log.now in
    let before = g.V.View.sight c.args.view.now in
    let db = applied ws before.database in
    asked_by_one tables (ForSelect row c.args.once c.args.query.now.columns.now c.args.query.now.table c.args.query.now.conds.now c.args.query.now.sorts.now body) env ws before (g.V.View.sight c.rows_asked.new.view) _ (asked c.ask_select.new.log) (for_goes tables row c.args.once c.args.query.now.columns.now c.args.query.now.table c.args.query.now.conds.now c.args.query.now.sorts.now body env db (asked c.ask_select.new.log) (found_by (asked c.ask_select.new.log) db) c.in-Ok.ensures.asks refl) refl (subst (λ (vs : List Write). AskedAtMost 1 (different vs) before (g.V.View.sight c.rows_asked.new.view)) seen c.rows_asked.ensures.looks)

pub returns-in-Err-clause-looks : goal.returns-in-Err-clause-looks
returns-in-Err-clause-looks g c = λ row body. none_asked_by c.args.context.now.tables.now (ForSelect row c.args.once c.args.query.now.columns.now c.args.query.now.table c.args.query.now.conds.now c.args.query.now.sorts.now body) c.args.context.now.env.now (own_seen c.args.context.now c.args.log.now) (g.V.View.sight c.args.view.now)

pub returns-in-Err-clause-view : goal.returns-in-Err-clause-view
returns-in-Err-clause-view g c = c.stop_after.ensures.view (g.V.View.sight c.args.view.now)

pub returns-in-Err-clause-rest : goal.returns-in-Err-clause-rest
returns-in-Err-clause-rest g c = on_ok_weaker c.stop_after.result (λ ends. ended_rest c.in-Err.reason c.args.log.now c.ask_select.new.log c.stop_after.new.log c.requires.blank c.in-Err.ensures.err ends) c.stop_after.ensures.ended

pub returns-in-Err-clause-err : goal.returns-in-Err-clause-err
returns-in-Err-clause-err g c = err_then c.stop_after.result c.args.log.now c.ask_select.new.log c.stop_after.new.log c.stop_after.ensures.err c.in-Err.ensures.err
