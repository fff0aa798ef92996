use Rattle.std.proofs.Common.{[], sym, subst, ◌∙◌}
use Rattle.std.specs.List.{AllByRecursion}
use Rattle.std.proofs.lemmas.List.{get_or_default}
use Rattle.mv_values.specs.References.{Reference, references_from, HaveOneKey}
use Rattle.mv_values.specs.Tables.{rows_at}
use Rattle.mv_values.proofs.There.{references_one_keyed}
use Rattle.mv_opening.proofs.parents.check_table_at.Goals as goal

pub check_table-requires : goal.check_table-requires
check_table-requires c =
    subst (λ cs. AllByRecursion (λ (r : Reference). HaveOneKey (rows_at c.args.opening.now r.parent)) (references_from c.args.table 0 cs)) (sym c.columns_of-columns.ensures)
    (references_one_keyed c.args.tables.now c.args.opening.now c.args.table c.requires)

pub returns-in-Some : goal.returns-in-Some
returns-in-Some c =
    let there = rw c.as_slice.ensures at c.in-Some.ensures.lookup in
    let is = there.1 ∙ get_or_default c.args.opening.now c.args.table c.in-Some.rows.now [] there.3.0 in
    rw (c.columns_of-columns.ensures, c.as_slice-in-Some.ensures.items, is) at c.check_table.ensures
