use Rattle.std.proofs.Common.{sym, subst}
use Rattle.std.specs.List.{AllByRecursion}
use Rattle.mv_values.specs.References.{Reference, references_from, HaveOneKey}
use Rattle.mv_values.specs.Tables.{rows_at}
use Rattle.mv_values.proofs.There.{references_one_keyed}
use Rattle.mv_serial.proofs.parents.has_parents.Goals as goal

pub columns_have_parents-requires : goal.columns_have_parents-requires
columns_have_parents-requires c =
    subst (λ cs. AllByRecursion (λ (r : Reference). HaveOneKey (rows_at c.args.tables.now r.parent)) (references_from c.args.table 0 cs)) (sym c.columns_in.ensures)
    (references_one_keyed c.args.infos.now c.args.tables.now c.args.table c.requires)

pub returns : goal.returns
returns c = rw c.columns_in.ensures at c.columns_have_parents.ensures
