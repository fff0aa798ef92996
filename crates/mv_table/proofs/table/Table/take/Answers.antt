use Rattle.std.proofs.Common.{◌≡◌, ap, ◌∙◌, subst, None}
use Rattle.mv_values.specs.Patching.{row_of, placed}
use Rattle.mv_values.specs.Keys.{stored}
use Rattle.mv_table.proofs.Storing.{stored_row, stored_with}
use Rattle.mv_table.proofs.table.Table.take.Goals as goal

pub returns-clause-rows : goal.returns-clause-rows
returns-clause-rows c = subst (λ rows. stored c.take.new.self ≡ placed c.args.key.now None rows) c.self.view_is (ap stored c.take.ensures.items ∙ stored_with c.args.key.now None c.self.inside.rows)

pub returns-clause-was : goal.returns-clause-was
returns-clause-was c = subst (λ rows. c.take.result ≡ row_of rows c.args.key.now) c.self.view_is (c.take.ensures.was ∙ stored_row c.self.inside.rows c.args.key.now)
