use Rattle.std.proofs.Common.{◌≡◌, IfOk, ap, subst, ◌∙◌}
use Rattle.mv_values.specs.Patching.{placed, row_of}
use Rattle.mv_values.specs.Tables.{rows_at}
use Rattle.mv_view.specs.Viewing.{answered, with_row_call}
use Rattle.mv_effect.proofs.rows.add_row.Goals as goal

pub returns-clause-found : goal.returns-clause-found
returns-clause-found g c =
    let found = row_of (rows_at (g.V.View.sight c.args.view.now).database c.args.table) c.args.key.now in
    c.in_ok-put_found.ensures ∙ ap (λ row. placed c.args.key.now row c.args.own.now) (subst (λ r. IfOk r (λ row. row ≡ found)) c.in_ok-row.was c.row.ensures.found)

pub returns-clause-counts : goal.returns-clause-counts
returns-clause-counts g c = c.row.ensures.counts ∙ ap (λ r. answered r (with_row_call (g.V.View.sight c.args.view.now))) c.in_ok-row.was
