use Rattle.std.proofs.Common.{sym, ap, ◌∙◌, ◌++◌}
use Rattle.mv_values.specs.Patching.{standing}
use Rattle.mv_values.specs.Tables.{rows_at}
use Rattle.std.proofs.lemmas.Result.{err_from_is_err_and}
use Rattle.mv_index.proofs.Asked.{passes_ok, passes_memory}
use Rattle.mv_index.proofs.Finding.{none_before, alone_found}
use Rattle.mv_index.proofs.look.rows_alone.Goals as goal

pub add_row-requires : goal.add_row-requires
add_row-requires g c = rw c.new-rows.ensures (none_before c.args.key.now c.in_ok-row.row)

pub returns-clause-found : goal.returns-clause-found
returns-clause-found g c =
    let db = (g.V.View.sight c.args.view.now).database in
    c.in_ok-add_row.ensures
    ∙ (ap (λ l. l ++ standing c.args.key.now c.in_ok-row.row) c.new-rows.ensures
    ∙ (ap (standing c.args.key.now) c.in_ok-row.ensures.found ∙ sym (alone_found c.args.pred.now (rows_at db c.args.pred.now.table) c.args.key.now (c.requires.rising c.args.pred.now.table) c.requires.only)))

pub returns-clause-passes_on : goal.returns-clause-passes_on
returns-clause-passes_on g c = passes_ok (g.V.View.sight c.args.view.now) (g.V.View.sight c.match_at.new.view) c.add_row.new.rows c.in_ok-row.ensures.passes_on.sight

pub returns-in_err-add_row-clause-passes_on : goal.returns-in_err-add_row-clause-passes_on
returns-in_err-add_row-clause-passes_on g c =
    let p = err_from_is_err_and c.from_residual-in_err-add_row.result c.from_residual-in_err-add_row.ensures.1 in
    rw (p.1, p.2) (passes_memory (g.V.View.sight c.args.view.now) (g.V.View.sight c.match_at.new.view) c.in_ok-row.ensures.passes_on.sight)
