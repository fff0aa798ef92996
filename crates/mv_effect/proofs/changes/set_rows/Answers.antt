use Rattle.std.proofs.Common.{◌∷◌, [], refl, ap, subst, sym, ◌∙◌}
use Rattle.mv_eval.specs.Rows.{is_some_row}
use Rattle.mv_eval.specs.Env.{with_found}
use Rattle.mv_eval.specs.Results.{Fails}
use Rattle.mv_log.specs.Logged.{Logged}
use Rattle.mv_record.specs.declared.effect.Effect.{Effect}
use Rattle.mv_recorded.specs.Effects.{changes, new_of, only_asks, effect_of_writes, slots_behind}
use Rattle.mv_effect.specs.Logging.{with_sets, with_writes}
use Rattle.mv_effect.proofs.Ends.{goes_on, ends_there}
use Rattle.mv_effect.specs.Asking.{asked}
use Rattle.mv_effect.proofs.OnePred.{asks_alone}
use Rattle.mv_effect.proofs.changes.set_rows.Goals as goal

pub returns-in-Ok-clause-ok : goal.returns-in-Ok-clause-ok
returns-in-Ok-clause-ok c =
    let log : Logged = c.args.log.now in
    let env = c.args.context.now.env.now in
    let meant = changes c.args.update.now.table c.args.update.now.items.now (new_of c.args.context.now.tables.now c.args.update.now.table env c.args.update.now.items.now) in
    let ws = c.push_sets.new.log.effect.writes in
    let slots = slots_behind (with_found env c.is_any.result) (env.found ∷ []) in
    goes_on (asked log) (meant c.args.rows.now) (λ ws. effect_of_writes (asked log ∷ []) (is_some_row c.args.rows.now) ws env) ws log c.push_found.new.log (with_sets c.push_sets.new.log slots) c.push_found.result
    (sym (ap meant c.as_slice.ensures.items) ∙ c.in-Ok.ensures.writes) c.push_found.ensures.ok
    (ap (λ (l : Logged). with_sets l slots) (c.push_sets.ensures.rest ∙ ap (λ (l : Logged). with_writes l ws) (asks_alone log c.requires.one)) ∙ ap (λ b. record log { effect = effect_of_writes (asked log ∷ []) b ws env }) c.is_any.ensures)

pub returns-in-Err-clause-ok : goal.returns-in-Err-clause-ok
returns-in-Err-clause-ok c =
    let log : Logged = c.args.log.now in
    let env = c.args.context.now.env.now in
    let meant = changes c.args.update.now.table c.args.update.now.items.now (new_of c.args.context.now.tables.now c.args.update.now.table env c.args.update.now.items.now) in
    let ws = c.push_sets.new.log.effect.writes in
    let so : Effect = only_asks (asked log) in
    ends_there (asked log) (meant c.args.rows.now) (λ ws. effect_of_writes (asked log ∷ []) (is_some_row c.args.rows.now) ws env) (record so { writes = ws }) log c.push_sets.new.log c.stop.new.log c.in-Err.reason c.stop.result
    (c.push_sets.ensures.rest ∙ ap (λ (l : Logged). with_writes l ws) (asks_alone log c.requires.one)) refl c.stop.ensures.ended
    (subst (Fails c.in-Err.reason) (ap meant c.as_slice.ensures.items) c.in-Err.ensures.writes)
