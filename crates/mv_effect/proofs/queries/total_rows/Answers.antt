use Rattle.std.proofs.Common.{◌∷◌, [], ◌++◌, not, refl, sym, ap, subst, ◌∙◌}
use Rattle.std.specs.Option.{is_some}
use Rattle.mv_eval.specs.Alone.{totalled}
use Rattle.mv_eval.specs.Env.{with_found}
use Rattle.mv_eval.specs.Results.{Fails}
use Rattle.mv_eval.specs.Rows.{matching, is_some_row, aggregate}
use Rattle.mv_log.specs.Logged.{Logged}
use Rattle.mv_recorded.specs.Doing.{when}
use Rattle.mv_recorded.specs.Effects.{only_asks, effect_of_aggregate, slots_behind}
use Rattle.mv_effect.specs.Logging.{with_sets}
use Rattle.mv_effect.specs.Asking.{asked}
use Rattle.mv_effect.proofs.OnePred.{asks_alone}
use Rattle.mv_effect.proofs.AllRows.{all_rows, some_row}
use Rattle.mv_effect.proofs.Ends.{goes_on, ends_there}
use Rattle.mv_effect.proofs.queries.total_rows.Goals as goal

pub returns-in-Ok-clause-ok : goal.returns-in-Ok-clause-ok
returns-in-Ok-clause-ok c =
    let log : Logged = c.args.log.now in
    let env = c.args.env.now in
    let total = c.in-Ok.total in
    let slots = slots_behind (with_found (totalled c.args.to total env) (not c.is_empty.result)) (when (is_some total) (c.args.to ∷ []) ++ env.found ∷ []) in
    goes_on (asked log) (aggregate c.args.agg (matching [] c.args.rows.now)) (λ total. effect_of_aggregate (asked log) c.args.to total (is_some_row (matching [] c.args.rows.now)) env) total log c.push_total.new.log (with_sets log slots)
    c.push_total.result (ap (aggregate c.args.agg) (sym (all_rows c.args.rows.now)) ∙ c.in-Ok.ensures) c.push_total.ensures.ok
    (ap (λ (l : Logged). with_sets l slots) (asks_alone log c.requires.one) ∙ ap (λ b. record log { effect = effect_of_aggregate (asked log) c.args.to total b env }) (ap not c.is_empty.ensures ∙ some_row c.args.rows.now))

pub returns-in-Err-clause-ok : goal.returns-in-Err-clause-ok
returns-in-Err-clause-ok c =
    let log : Logged = c.args.log.now in
    ends_there (asked log) (aggregate c.args.agg (matching [] c.args.rows.now)) (λ total. effect_of_aggregate (asked log) c.args.to total (is_some_row (matching [] c.args.rows.now)) c.args.env.now) (only_asks (asked log)) log
    log c.stop.new.log c.in-Err.reason c.stop.result (asks_alone log c.requires.one) refl c.stop.ensures.ended (subst (λ l. Fails c.in-Err.reason (aggregate c.args.agg l)) (all_rows c.args.rows.now) c.in-Err.ensures)
