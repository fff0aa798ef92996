use Rattle.std.proofs.Common.{ap, refl, ◌∙◌, List, OnOk, subst, ◌≡◌}
use Rattle.std.proofs.lemmas.Result.{on_ok_weaker}
use Rattle.mv_values.specs.Patching.{applied, found_by}
use Rattle.mv_catalog.specs.declared.resolved.RStmt.TheOpen.{Total}
use Rattle.mv_log.specs.Logged.{Logged}
use Rattle.mv_effect.specs.Seeing.{own_seen}
use Rattle.mv_recorded.proofs.Congruent.{then_preds}
use Rattle.mv_effect.specs.Totalling.{total_asked}
use Rattle.mv_effect.proofs.Asked.{asked_by_one, none_asked_by}
use Rattle.mv_effect.proofs.Told.{total_found_done}
use Rattle.mv_effect.specs.Asking.{asked}
use Rattle.mv_effect.proofs.OnePred.{effect_alone_then, ended_rest, err_then}
use Rattle.mv_values.specs.declared.patch.Write.{Write}
use Rattle.mv_effect.specs.Looking.{different, AskedAtMost}
use Rattle.mv_effect.proofs.Seen.{seen_later, sees_later}
use Rattle.mv_effect.proofs.queries.total.Goals as goal

pub total_asked-requires : goal.total_asked-requires
total_asked-requires g c =
    let before = (g.V.View.sight c.args.view.now).database in λ k. (
      (refl, tt),
      (sees_later c.args.context.now c.args.log.now c.ask_total.new.log before before (ap (λ (l : Logged). l.records) c.in-Ok.ensures.rest) refl c.requires.stands, (c.requires.found, (c.in-Ok.ensures.one, c.in-Ok.ensures.knows))),
    )

pub returns-clause-effect : goal.returns-clause-effect
returns-clause-effect g c =
    let seen = seen_later c.args.context.now c.args.log.now c.ask_total.new.log (ap (λ (l : Logged). l.records) c.in-Ok.ensures.rest) in
    let db = applied (own_seen c.args.context.now c.args.log.now) (g.V.View.sight c.args.view.now).database in
    let log : Logged = c.ask_total.new.log in
    on_ok_weaker c.total_asked.result
    (λ is lines. ap (λ (l : Logged). l.effect) is ∙ total_found_done c.args.context.now.tables.now c.args.agg c.args.to c.args.table c.args.conds.now c.args.context.now.env.now db (asked c.ask_total.new.log) c.in-Ok.ensures.asks lines)
    (subst (λ (vs : List Write). OnOk c.total_asked.result (c.total_asked.new.log ≡ record log { effect = total_asked c.args.agg c.args.to (asked log) (found_by (asked log) (applied vs (g.V.View.sight c.args.view.now).database)) c.args.context.now.env.now })) seen c.total_asked.ensures.effect)

pub returns-clause-looks : goal.returns-clause-looks
returns-clause-looks g c =
    let seen = seen_later c.args.context.now c.args.log.now c.ask_total.new.log (ap (λ (l : Logged). l.records) c.in-Ok.ensures.rest) in
    let tables = c.args.context.now.tables.now in
    let env = c.args.context.now.env.now in
    let ws = own_seen c.args.context.now c.args.log.now in
    let before = g.V.View.sight c.args.view.now in
    let db = applied ws before.database in
    asked_by_one tables (Total c.args.agg c.args.to c.args.table c.args.conds.now) env ws before (g.V.View.sight c.total_asked.new.view) (total_asked c.args.agg c.args.to (asked c.ask_total.new.log) (found_by (asked c.ask_total.new.log) db) env) (asked c.ask_total.new.log)
    (total_found_done tables c.args.agg c.args.to c.args.table c.args.conds.now env db (asked c.ask_total.new.log) c.in-Ok.ensures.asks) (then_preds (asked c.ask_total.new.log) _ _ (λ total. refl)) (subst (λ (vs : List Write). AskedAtMost 1 (different vs) before (g.V.View.sight c.total_asked.new.view)) seen c.total_asked.ensures.looks)

pub returns-in-Err-clause-looks : goal.returns-in-Err-clause-looks
returns-in-Err-clause-looks g c = none_asked_by c.args.context.now.tables.now (Total c.args.agg c.args.to c.args.table c.args.conds.now) c.args.context.now.env.now (own_seen c.args.context.now c.args.log.now) (g.V.View.sight c.args.view.now)

pub returns-clause-rest : goal.returns-clause-rest
returns-clause-rest g c = on_ok_weaker c.total_asked.result (λ is. effect_alone_then c.args.log.now c.ask_total.new.log c.total_asked.new.log _ c.in-Ok.ensures.rest is) c.total_asked.ensures.effect

pub returns-in-Err-clause-view : goal.returns-in-Err-clause-view
returns-in-Err-clause-view g c = c.stop_after.ensures.view (g.V.View.sight c.args.view.now)

pub returns-in-Err-clause-rest : goal.returns-in-Err-clause-rest
returns-in-Err-clause-rest g c = on_ok_weaker c.stop_after.result (λ ends. ended_rest c.in-Err.reason c.args.log.now c.ask_total.new.log c.stop_after.new.log c.requires.blank c.in-Err.ensures.err ends) c.stop_after.ensures.ended

pub returns-in-Err-clause-err : goal.returns-in-Err-clause-err
returns-in-Err-clause-err g c = err_then c.stop_after.result c.args.log.now c.ask_total.new.log c.stop_after.new.log c.stop_after.ensures.err c.in-Err.ensures.err
