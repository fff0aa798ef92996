use Rattle.std.proofs.Common.{Some, sym, ap, ◌∙◌}
use Rattle.mv_values.specs.declared.rows.Keyed.{Keyed}
use Rattle.mv_values.specs.Tables.{rows_at}
use Rattle.mv_index.proofs.Asked.{not_asked, passes_ok}
use Rattle.mv_index.proofs.Finding.{alone_passed, alone_first, alone_none}
use Rattle.mv_index.proofs.look.foremost_alone.Goals as goal

pub returns-then-contains-clause-found : goal.returns-then-contains-clause-found
returns-then-contains-clause-found g c d =
    let rows = rows_at (g.V.View.sight c.args.view.now).database c.args.pred.now.table in
    alone_passed c.args.pred.now rows (g.K.KeySet.has c.args.passed.now) c.args.key.now d (c.requires.rising c.args.pred.now.table) c.requires.only (sym c.contains.ensures ∙ c.if-contains.true)

pub returns-then-contains-clause-asked : goal.returns-then-contains-clause-asked
returns-then-contains-clause-asked g c = not_asked 0 1 (g.V.View.sight c.args.view.now)

pub returns-in_ok-key-in-Some-clause-found : goal.returns-in_ok-key-in-Some-clause-found
returns-in_ok-key-in-Some-clause-found g c d =
    let rows = rows_at (g.V.View.sight c.args.view.now).database c.args.pred.now.table in
    ap (λ (item : Keyed). Some item) c.under.ensures
    ∙ (ap (λ key. Some (record { key = key; row = c.in-Some.row })) c.in_ok-key-in-Some.ensures
    ∙ alone_first c.args.pred.now rows (g.K.KeySet.has c.args.passed.now) c.args.key.now c.in-Some.row d (c.requires.rising c.args.pred.now.table) c.requires.only (sym c.contains.ensures ∙ c.if-contains.false) (sym c.in_ok-row.ensures.found ∙ c.in-Some.is))

pub returns-in_ok-key-in-Some-clause-passes_on : goal.returns-in_ok-key-in-Some-clause-passes_on
returns-in_ok-key-in-Some-clause-passes_on g c = passes_ok (g.V.View.sight c.args.view.now) (g.V.View.sight c.match_at.new.view) _ c.in_ok-row.ensures.passes_on.sight

pub returns-in-None-clause-found : goal.returns-in-None-clause-found
returns-in-None-clause-found g c d =
    let rows = rows_at (g.V.View.sight c.args.view.now).database c.args.pred.now.table in
    alone_none c.args.pred.now rows (g.K.KeySet.has c.args.passed.now) c.args.key.now d (c.requires.rising c.args.pred.now.table) c.requires.only (sym c.in_ok-row.ensures.found ∙ c.in-None.is)

pub returns-in-None-clause-passes_on : goal.returns-in-None-clause-passes_on
returns-in-None-clause-passes_on g c = passes_ok (g.V.View.sight c.args.view.now) (g.V.View.sight c.match_at.new.view) _ c.in_ok-row.ensures.passes_on.sight
