use Rattle.std.proofs.Common.{rules, ◌≡◌, [], to_z, of_z, sym, ap, ◌∙◌}
use mir.Syntax.{w64}
use Rattle.mv_eval.specs.Rows.{item_at, matching, ordered}
use Rattle.mv_log.specs.Logged.{Logged}
use Rattle.mv_effect.specs.Seeing.{own_seen}
use Rattle.mv_recorded.specs.Effects.{effect_of_select}
use Rattle.mv_recorded.proofs.Matching.{matching_all}
use Rattle.mv_effect.specs.Asking.{asked}
use Rattle.mv_effect.proofs.Told.{select_led}
use Rattle.mv_effect.proofs.queries.select_asked.Goals as goal

pub returns-in-Some-clause-effect : goal.returns-in-Some-clause-effect
returns-in-Some-clause-effect g c =
    let log : Logged = c.args.log.now in
    let at : to_z w64 (of_z w64 c.args.at) ≡ c.args.at = search rules in
    c.in_ok-select_found.ensures.ok
    ∙ ap (λ e. record log { effect = e })
    (select_led c.args.context.now.tables.now (own_seen c.args.context.now c.args.log.now) (g.V.View.sight c.args.view.now).database c.args.query.now.columns.now c.args.to.now c.args.query.now.sorts.now c.in-Some.direction (asked c.args.log.now)
    c.args.at c.args.context.now.env.now c.in_ok-row.row c.requires.stands c.requires.knows c.in-Some.ensures.leads (sym at ∙ c.in-Some.ensures.first) c.in_ok-row.ensures.found)

pub returns-clause-effect : goal.returns-clause-effect
returns-clause-effect g c =
    let log : Logged = c.args.log.now in
    let at : to_z w64 (of_z w64 c.args.at) ≡ c.args.at = search rules in
    c.in_ok-select_at.ensures.ok
    ∙ (ap (λ n. record log { effect = effect_of_select (asked c.args.log.now) c.args.query.now.columns.now c.args.to.now (item_at (ordered c.args.query.now.sorts.now (matching [] c.as_slice.result.now)) n) c.args.context.now.env.now }) at
    ∙ ap (λ rows. record log { effect = effect_of_select (asked c.args.log.now) c.args.query.now.columns.now c.args.to.now (item_at (ordered c.args.query.now.sorts.now rows) c.args.at) c.args.context.now.env.now })
    (matching_all c.as_slice.result.now ∙ (c.as_slice.ensures.items ∙ c.in_ok-rows.ensures.found)))
