use Rattle.std.proofs.Common.{◌≡◌, ◌∙◌, subst}
use Rattle.std.specs.Option.{option_copied}
use Rattle.mv_values.specs.Patching.{row_of}
use Rattle.mv_table.proofs.Storing.{stored_row}
use Rattle.mv_table.proofs.table.Table.get.Goals as goal

pub returns : goal.returns
returns c = subst (λ rows. option_copied c.get.result ≡ row_of rows c.args.key.now) c.self.view_is (c.get.ensures ∙ stored_row c.self.inside.rows c.args.key.now)
