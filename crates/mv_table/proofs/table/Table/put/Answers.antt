use Rattle.std.proofs.Common.{◌≡◌, ap, ◌∙◌, subst, Some}
use Rattle.mv_values.specs.Patching.{row_of, placed}
use Rattle.mv_values.specs.Keys.{stored}
use Rattle.mv_table.proofs.Storing.{stored_row, stored_with}
use Rattle.mv_table.proofs.table.Table.put.Goals as goal

pub returns-clause-ok : goal.returns-clause-ok
returns-clause-ok c = subst (λ rows. stored c.put.new.self ≡ placed c.args.key (Some c.args.row) rows) c.self.view_is (ap stored c.in_ok-was.ensures.ok ∙ stored_with c.args.key (Some c.args.row) c.self.inside.rows)

pub returns-clause-was : goal.returns-clause-was
returns-clause-was c = subst (λ rows. c.in_ok-was.was' ≡ row_of rows c.args.key) c.self.view_is (c.in_ok-was.ensures.was ∙ stored_row c.self.inside.rows c.args.key)
