use Rattle.std.proofs.Common.{◌∷◌, [], refl}
use Rattle.mv_effect.specs.Seeing.{own_seen}
use Rattle.mv_effect.proofs.Asked.{asked_one}
use Rattle.mv_effect.proofs.checks.finds_some.Goals as goal

pub returns-clause-looks : goal.returns-clause-looks
returns-clause-looks g c =
    asked_one (c.args.pred.now ∷ []) c.args.pred.now (own_seen c.args.context.now c.args.log.now) (g.V.View.sight c.args.view.now) (g.V.View.sight c.first_visible.new.view) refl c.first_visible.ensures.looks

pub returns-in_err-row-clause-looks : goal.returns-in_err-row-clause-looks
returns-in_err-row-clause-looks g c =
    asked_one (c.args.pred.now ∷ []) c.args.pred.now (own_seen c.args.context.now c.args.log.now) (g.V.View.sight c.args.view.now) (g.V.View.sight c.first_visible.new.view) refl c.first_visible.ensures.looks
