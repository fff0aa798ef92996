use Rattle.std.proofs.Common.{◌≡◌, ◌∷◌, [], Ok, sym, ap, ◌∙◌}
use Rattle.std.proofs.lemmas.Result.{on_ok_weaker}
use Rattle.mv_eval.specs.Rows.{is_some_row}
use Rattle.mv_eval.specs.Env.{with_found}
use Rattle.mv_log.specs.Logged.{Logged}
use Rattle.mv_recorded.specs.Asking.{on}
use Rattle.mv_recorded.specs.Effects.{changes, new_of, slots_behind}
use Rattle.mv_effect.specs.Logging.{with_sets, with_writes}
use Rattle.mv_effect.proofs.changes.push_update.Goals as goal

pub returns-in-Ok-clause-ok : goal.returns-in-Ok-clause-ok
returns-in-Ok-clause-ok c =
    let env = c.args.context.now.env.now in
    let meant = changes c.args.update.now.table c.args.update.now.items.now (new_of c.args.context.now.tables.now c.args.update.now.table env c.args.update.now.items.now) in
    let ws = c.push_sets.new.log.effect.writes in
    let is : meant c.args.rows.now ≡ Ok ws = sym (ap meant c.as_slice.ensures.items) ∙ c.in-Ok.ensures.writes in
    on_ok_weaker c.push_found.result
    (λ set.
    set ∙ (ap (λ (l : Logged). with_sets l (slots_behind (with_found env c.is_any.result) (env.found ∷ []))) c.push_sets.ensures.rest
    ∙ (ap (λ b. with_sets (with_writes c.args.log.now ws) (slots_behind (with_found env b) (env.found ∷ []))) c.is_any.ensures
    ∙ ap (λ r. with_sets (with_writes c.args.log.now (on r (λ vs. vs))) (slots_behind (with_found env (is_some_row c.args.rows.now)) (env.found ∷ []))) (sym is))))
    c.push_found.ensures.ok
