use Rattle.std.proofs.Common.{◌∙◌, ap, slice_get}
use Rattle.mv_ast.specs.declared.tree.TableDef.{TableDef}
use Rattle.mv_resolve.proofs.Lists.{place_first}
use Rattle.mv_resolve.proofs.build_names.numbered_table.Goals as goal

pub returns-clause-table : goal.returns-clause-table
returns-clause-table c = c.at.ensures ∙ (ap (slice_get c.args.tables.now) c.place-place.ensures ∙ place_first (λ (t : TableDef). t.name.text) c.args.tables.now c.args.name.now.text)
