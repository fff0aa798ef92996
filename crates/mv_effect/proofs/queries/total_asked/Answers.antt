use Rattle.std.proofs.Common.{◌∙◌, ap}
use Rattle.mv_log.specs.Logged.{Logged}
use Rattle.mv_effect.specs.Seeing.{own_seen}
use Rattle.mv_recorded.proofs.Matching.{matching_all}
use Rattle.mv_effect.specs.Asking.{asked}
use Rattle.mv_effect.specs.Totalling.{total_asked}
use Rattle.mv_effect.proofs.Told.{total_told}
use Rattle.mv_effect.proofs.queries.total_asked.Goals as goal

pub returns-in-Some-clause-effect : goal.returns-in-Some-clause-effect
returns-in-Some-clause-effect g c =
    let log : Logged = c.args.log.now in
    c.in_ok-total_row.ensures.ok
    ∙ ap (λ e. record log { effect = e })
    (total_told c.args.context.now.tables.now (own_seen c.args.context.now c.args.log.now) (g.V.View.sight c.args.view.now).database c.args.agg c.args.to c.in-Some.column c.in-Some.direction (asked log)
    c.args.context.now.env.now c.in_ok-row.row c.requires.stands c.requires.knows c.in-Some.ensures c.in_ok-row.ensures.found)

pub returns-clause-effect : goal.returns-clause-effect
returns-clause-effect g c =
    let log : Logged = c.args.log.now in
    c.in_ok-total_rows.ensures.ok
    ∙ ap (λ rows. record log { effect = total_asked c.args.agg c.args.to (asked log) rows c.args.context.now.env.now }) (matching_all c.as_slice.result.now ∙ (c.as_slice.ensures.items ∙ c.in_ok-rows.ensures.found))
