use Rattle.std.proofs.Common.{sym, ap, ◌∙◌}
use Rattle.mv_values.specs.Patching.{row_of}
use Rattle.mv_values.specs.Preds.{matched}
use Rattle.mv_values.specs.Tables.{rows_at}
use Rattle.mv_record.specs.Writes.{writes_on}
use Rattle.mv_undo.specs.Owning.{earlier}
use Rattle.mv_undo.proofs.Fixing.{fixed_or_same}
use Rattle.mv_effect.proofs.Foremost.{row_after}
use Rattle.mv_effect.proofs.rows.own_row.Goals as goal

pub returns-clause-found : goal.returns-clause-found
returns-clause-found g c =
    let pred = c.args.pred.now in
    let ws = earlier c.args.number c.args.undo.now in
    let db = (g.V.View.sight c.args.view.now).database in
    let was = rw c.table-table.ensures at c.in_ok-was.ensures.found in
    c.made.ensures
    ∙ (c.matched.ensures
    ∙ (ap (matched pred) ((rw c.table-table.ensures at c.in_ok-row.ensures) ∙ fixed_or_same (writes_on pred.table c.args.key.now ws) _ (row_of (rows_at db pred.table) c.args.key.now) (λ unfixed. c.borrowed.ensures ∙ was unfixed))
    ∙ sym (row_after pred ws db c.requires.rising c.requires.table c.args.key.now)))
