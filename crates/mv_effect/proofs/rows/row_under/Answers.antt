use Rattle.std.proofs.Common.{◌∙◌, sym}
use Rattle.mv_undo.specs.Owning.{earlier}
use Rattle.mv_effect.proofs.Whole.{asked_touched, match_untouched}
use Rattle.mv_effect.proofs.rows.row_under.Goals as goal

pub returns-then-touched-clause-looks : goal.returns-then-touched-clause-looks
returns-then-touched-clause-looks g c =
    asked_touched c.args.pred.now.table c.args.key.now (earlier c.args.number c.args.undo.now) (g.V.View.sight c.args.view.now) (g.V.View.sight c.own_row.new.view) (rw c.table.ensures at (sym c.touched.ensures ∙ c.if-touched.true)) c.own_row.ensures.looks

pub returns-clause-found : goal.returns-clause-found
returns-clause-found g c =
    c.in_ok-row.ensures.found
    ∙ match_untouched c.args.pred.now (earlier c.args.number c.args.undo.now) (g.V.View.sight c.args.view.now).database c.args.key.now c.requires.rising c.requires.table (rw c.table.ensures at (sym c.touched.ensures ∙ c.if-touched.false))

pub returns-then-touched-clause-found : goal.returns-then-touched-clause-found
returns-then-touched-clause-found g c = c.own_row.ensures.found

pub returns-then-touched-clause-view : goal.returns-then-touched-clause-view
returns-then-touched-clause-view g c = c.own_row.ensures.view
