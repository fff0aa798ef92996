use Rattle.std.proofs.Common.{◌≡◌, sym, ap, subst, ◌∙◌, rules}
use Rattle.std.specs.Prelude.{IfOk}
use Rattle.mv_values.specs.Tables.{rows_at}
use Rattle.mv_record.specs.Admitting.{Admitted}
use Rattle.mv_table.specs.Scans.{foremost}
use Rattle.mv_table.proofs.Scanning.{foremost_none}
use Rattle.mv_view.specs.Narrowing.{matching, outside}
use Rattle.mv_store.specs.Stored.{table_at}
use Rattle.mv_store.proofs.Rows.{table_there, no_table}
use Rattle.mv_store.proofs.tables.TablesView.find_foremost.Goals as goal

pub find_foremost-requires : goal.find_foremost-requires
find_foremost-requires g c =
    let is : table_at c.self.inside.n c.in-Some.table.now ≡ rows_at c.args.self.now.database c.args.pred.now.table =
    table_there c.self.inside.n c.self.inside.tables.now c.args.pred.now.table c.in-Some.table.now (rw (← c.table.ensures) (search rules)) (rw (← c.table.ensures) (search rules)) ∙ ap (λ v. rows_at v.database c.args.pred.now.table) c.self.view_is in
    subst (Admitted c.args.pred.now) (sym is) c.requires

pub returns-in-Some : goal.returns-in-Some
returns-in-Some g c =
    let is : table_at c.self.inside.n c.in-Some.table.now ≡ rows_at c.args.self.now.database c.args.pred.now.table =
    table_there c.self.inside.n c.self.inside.tables.now c.args.pred.now.table c.in-Some.table.now (rw (← c.table.ensures) (search rules)) (rw (← c.table.ensures) (search rules)) ∙ ap (λ v. rows_at v.database c.args.pred.now.table) c.self.view_is in
    subst (λ all. IfOk c.find_foremost.result (λ row. row ≡ foremost c.args.direction (outside (g.K.KeySet.has c.args.passed.now) (matching c.args.pred.now all)))) is c.find_foremost.ensures

pub returns-in-None : goal.returns-in-None
returns-in-None g c =
    sym (foremost_none c.args.direction)
    ∙ ap (λ all. foremost c.args.direction (outside (g.K.KeySet.has c.args.passed.now) (matching c.args.pred.now all))) (sym (no_table c.self.inside.n c.self.inside.tables.now c.args.pred.now.table (rw (← c.table.ensures) (search rules))) ∙ ap (λ v. rows_at v.database c.args.pred.now.table) c.self.view_is)
