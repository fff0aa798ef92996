use Rattle.std.proofs.Common.{◌≡◌, sym, ap, subst, ◌∙◌, rules}
use Rattle.std.specs.Prelude.{IfOk}
use Rattle.mv_values.specs.Tables.{rows_at}
use Rattle.mv_record.specs.Admitting.{Admitted}
use Rattle.mv_view.specs.Narrowing.{matching}
use Rattle.mv_store.specs.Stored.{table_at}
use Rattle.mv_store.proofs.Rows.{table_there, no_table}
use Rattle.mv_store.proofs.tables.TablesView.find.Goals as goal

pub find-requires : goal.find-requires
find-requires c =
    let is : table_at c.self.inside.n c.in-Some.table.now ≡ rows_at c.args.self.now.database c.args.pred.now.table =
    table_there c.self.inside.n c.self.inside.tables.now c.args.pred.now.table c.in-Some.table.now (rw (← c.table.ensures) (search rules)) (rw (← c.table.ensures) (search rules)) ∙ ap (λ v. rows_at v.database c.args.pred.now.table) c.self.view_is in
    subst (Admitted c.args.pred.now) (sym is) c.requires

pub returns-in-Some : goal.returns-in-Some
returns-in-Some c =
    let is : table_at c.self.inside.n c.in-Some.table.now ≡ rows_at c.args.self.now.database c.args.pred.now.table =
    table_there c.self.inside.n c.self.inside.tables.now c.args.pred.now.table c.in-Some.table.now (rw (← c.table.ensures) (search rules)) (rw (← c.table.ensures) (search rules)) ∙ ap (λ v. rows_at v.database c.args.pred.now.table) c.self.view_is in
    subst (λ all. IfOk c.find.result (λ rows. rows ≡ matching c.args.pred.now all)) is c.find.ensures

pub returns-in-None : goal.returns-in-None
returns-in-None c =
    c.new.ensures ∙ ap (matching c.args.pred.now) (sym (no_table c.self.inside.n c.self.inside.tables.now c.args.pred.now.table (rw (← c.table.ensures) (search rules))) ∙ ap (λ v. rows_at v.database c.args.pred.now.table) c.self.view_is)
