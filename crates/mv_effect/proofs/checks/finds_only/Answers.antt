use Rattle.std.proofs.Common.{◌∷◌, [], List, refl, ap, ◌∙◌}
use Rattle.std.specs.List.{list_all}
use Rattle.mv_values.specs.declared.rows.Keyed.{Keyed}
use Rattle.mv_values.specs.Keys.{keys}
use Rattle.mv_effect.specs.Seeing.{own_seen}
use Rattle.mv_recorded.specs.Asking.{is_among}
use Rattle.mv_checks.proofs.Running.{all_keys}
use Rattle.mv_effect.proofs.Asked.{asked_one}
use Rattle.mv_effect.proofs.checks.finds_only.Goals as goal

pub returns-clause-found : goal.returns-clause-found
returns-clause-found g c =
    let own = c.args.own.now in
    c.have_keys.ensures ∙ (all_keys (is_among own) c.as_slice.result.now ∙ ap (λ (rows : List Keyed). list_all (is_among own) (keys rows)) (c.as_slice.ensures.items ∙ c.in_ok-found.ensures.found))

pub returns-clause-looks : goal.returns-clause-looks
returns-clause-looks g c =
    asked_one (c.args.pred.now ∷ []) c.args.pred.now (own_seen c.args.context.now c.args.log.now) (g.V.View.sight c.args.view.now) (g.V.View.sight c.visible_rows.new.view) refl c.visible_rows.ensures.looks

pub returns-in_err-found-clause-looks : goal.returns-in_err-found-clause-looks
returns-in_err-found-clause-looks g c =
    asked_one (c.args.pred.now ∷ []) c.args.pred.now (own_seen c.args.context.now c.args.log.now) (g.V.View.sight c.args.view.now) (g.V.View.sight c.visible_rows.new.view) refl c.visible_rows.ensures.looks
