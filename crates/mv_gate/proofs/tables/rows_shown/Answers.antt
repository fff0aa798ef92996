use Rattle.std.proofs.Common.{refl, ap, ◌∙◌}
use Rattle.mv_values.specs.declared.pred.Pred.{Pred}
use Rattle.mv_values.specs.Tables.{rows_at}
use Rattle.mv_gate.proofs.Copying.{all_admitted, all_found}
use Rattle.mv_gate.proofs.tables.rows_shown.Goals as goal

pub rows-requires : goal.rows-requires
rows-requires g c = λ k. ((refl, tt), all_admitted c.new-pred.result (rows_at (g.V.View.sight c.args.view.now).database c.new-pred.result.table) (ap (λ (p : Pred). p.tests) c.new-pred.ensures))

pub returns-clause-rows : goal.returns-clause-rows
returns-clause-rows g c =
    let db = (g.V.View.sight c.args.view.now).database in
    c.in_ok-into_rows.ensures
    ∙ (c.in_ok-found.ensures.found
    ∙ (all_found c.new-pred.result db (ap (λ (p : Pred). p.tests) c.new-pred.ensures) ∙ ap (λ (p : Pred). rows_at db p.table) c.new-pred.ensures))
