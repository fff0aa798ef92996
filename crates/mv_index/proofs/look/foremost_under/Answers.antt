use Rattle.std.proofs.Common.{rules, None, length, refl, sym, ap, subst, ◌∙◌}
use Rattle.std.proofs.lemmas.Result.{IfOk-weaker}
use Rattle.mv_values.specs.Tables.{rows_at}
use Rattle.mv_table.specs.Scans.{foremost}
use Rattle.mv_table.proofs.Scanning.{foremost_none}
use Rattle.mv_view.specs.Narrowing.{outside}
use Rattle.mv_index.specs.Asking.{AskedAtMost}
use Rattle.mv_index.specs.Forms.{KeyList, lent}
use Rattle.mv_index.specs.Indexing.{HaveKeys}
use Rattle.mv_index.proofs.Asked.{not_asked, passes_ok}
use Rattle.mv_index.proofs.Finding.{none_found, only_of}
use Rattle.mv_index.proofs.look.foremost_under.Goals as goal

pub returns-in-None-clause-found : goal.returns-in-None-clause-found
returns-in-None-clause-found g c =
    let pred = c.args.pred.now in
    let rows = rows_at (g.V.View.sight c.args.view.now).database pred.table in
    let d = c.args.direction in
    let none = none_found pred rows (c.requires.rising pred.table) (subst (λ keys. HaveKeys pred keys rows) (sym c.lend.ensures ∙ ap lent c.in-None.is) c.requires.all) in
    sym (ap (λ found. foremost d (outside (g.K.KeySet.has c.args.passed.now) found)) none ∙ foremost_none d)

pub returns-in-None-clause-asked : goal.returns-in-None-clause-asked
returns-in-None-clause-asked g c = not_asked 0 (length c.args.keys.now) (g.V.View.sight c.args.view.now)

pub returns-in-None-clause-passes_on : goal.returns-in-None-clause-passes_on
returns-in-None-clause-passes_on g c = passes_ok (g.V.View.sight c.args.view.now) (g.V.View.sight c.args.view.now) None refl

pub foremost_alone-requires : goal.foremost_alone-requires
foremost_alone-requires g c =
    let pred = c.args.pred.now in
    let rows = rows_at (g.V.View.sight c.args.view.now).database pred.table in
    λ k. ((refl, tt), (search rules, only_of pred rows c.in-One.key.now (subst (λ keys. HaveKeys pred keys rows) (sym c.lend.ensures ∙ ap lent c.in-One.is) c.requires.all)))

pub returns-in-One-clause-found : goal.returns-in-One-clause-found
returns-in-One-clause-found g c = IfOk-weaker c.foremost_alone.result _ _ (λ row is. is c.args.direction) c.foremost_alone.ensures.found

pub returns-in-One-clause-asked : goal.returns-in-One-clause-asked
returns-in-One-clause-asked g c =
    subst (λ (keys : KeyList). AskedAtMost 0 (length keys) (g.V.View.sight c.args.view.now) (g.V.View.sight c.foremost_alone.new.view)) (sym (sym c.lend.ensures ∙ ap lent c.in-One.is)) c.foremost_alone.ensures.asked

pub foremost_among-requires : goal.foremost_among-requires
foremost_among-requires g c =
    let pred = c.args.pred.now in
    let rows = rows_at (g.V.View.sight c.args.view.now).database pred.table in
    λ k. ((refl, tt), (search rules, (search rules, subst (λ keys. HaveKeys pred keys rows) (sym c.lend.ensures ∙ ap lent c.in-Several.is) c.requires.all)))

pub returns-in-Several-clause-asked : goal.returns-in-Several-clause-asked
returns-in-Several-clause-asked g c =
    subst (λ (keys : KeyList). AskedAtMost 0 (length keys) (g.V.View.sight c.args.view.now) (g.V.View.sight c.foremost_among.new.view)) (sym (sym c.lend.ensures ∙ ap lent c.in-Several.is)) c.foremost_among.ensures.asked
