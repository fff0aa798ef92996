use Rattle.std.proofs.Common.{ap, subst, ◌∙◌}
use Rattle.mv_values.specs.Preds.{matched}
use Rattle.mv_index.specs.Asking.{PassesOn}
use Rattle.std.proofs.lemmas.Result.{err_from_is_err_and}
use Rattle.mv_index.proofs.Asked.{row_passes, row_asked, passes_ok}
use Rattle.mv_index.proofs.look.match_at.Goals as goal

pub returns-clause-found : goal.returns-clause-found
returns-clause-found g c = c.only_match.ensures ∙ ap (matched c.args.pred.now) c.in_ok-row.ensures.found

pub returns-clause-asked : goal.returns-clause-asked
returns-clause-asked g c = row_asked c.row_of.result (g.V.View.sight c.args.view.now) (g.V.View.sight c.row_of.new.view) c.row_of.ensures.counts

pub returns-clause-passes_on : goal.returns-clause-passes_on
returns-clause-passes_on g c =
    let before = g.V.View.sight c.args.view.now in
    let after = g.V.View.sight c.row_of.new.view in
    passes_ok before after c.only_match.result (subst (λ r. PassesOn before after r) c.in_ok-row.was (row_passes c.row_of.result before after c.row_of.ensures.counts c.row_of.ensures.stale)).sight

pub returns-in_err-row-clause-asked : goal.returns-in_err-row-clause-asked
returns-in_err-row-clause-asked g c = row_asked c.row_of.result (g.V.View.sight c.args.view.now) (g.V.View.sight c.row_of.new.view) c.row_of.ensures.counts

pub returns-in_err-row-clause-passes_on : goal.returns-in_err-row-clause-passes_on
returns-in_err-row-clause-passes_on g c =
    let p = err_from_is_err_and c.from_residual.result c.from_residual.ensures.1 in
    let before = g.V.View.sight c.args.view.now in
    let after = g.V.View.sight c.row_of.new.view in
    rw (p.1, p.2) (subst (λ r. PassesOn before after r) c.in_err-row.was (row_passes c.row_of.result before after c.row_of.ensures.counts c.row_of.ensures.stale))
