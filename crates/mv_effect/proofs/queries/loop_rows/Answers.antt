use Rattle.std.proofs.Common.{◌≡◌, OnOk, sym, ap, subst, ◌∙◌}
use Rattle.std.proofs.lemmas.List.{map-id}
use Rattle.mv_values.specs.Keys.{IsRising}
use Rattle.mv_eval.specs.Alone.{fixed}
use Rattle.mv_log.specs.Logged.{Logged}
use Rattle.mv_recorded.specs.Effects.{effect_of_loop}
use Rattle.mv_effect.specs.Asking.{asked}
use Rattle.mv_effect.proofs.AllRows.{all_rows}
use Rattle.mv_effect.proofs.queries.loop_rows.Goals as goal

pub fixed_rows-requires : goal.fixed_rows-requires
fixed_rows-requires c = subst IsRising (sym (map-id c.args.rows.now)) c.requires.rising

pub returns-clause-ok : goal.returns-clause-ok
returns-clause-ok c =
    let was : Logged = c.args.log.now in
    subst (λ l. OnOk c.loop_turns.result (c.loop_turns.new.log ≡ record was { effect = effect_of_loop (asked was) l c.args.env.now })) (c.in_ok-turns.ensures ∙ ap (fixed c.args.once c.args.query.now.columns.now c.args.query.now.sorts.now) (all_rows c.args.rows.now)) c.loop_turns.ensures.ok
