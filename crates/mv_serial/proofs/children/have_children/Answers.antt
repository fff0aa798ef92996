use Rattle.std.proofs.Common.{◌+◌, ◌≤◌, drop, length, sym, subst, ◌∙◌, arith}
use Rattle.mv_values.specs.declared.schema.TableInfo.{TableInfo}
use Rattle.mv_values.specs.References.{references_from, all_references}
use Rattle.mv_serial.specs.Removing.{to_table, have_children}
use Rattle.mv_serial.proofs.Leaving.{tables_step, off_then}
use Rattle.mv_serial.proofs.children.have_children.Goals as goal

pub columns_have_children-requires-clause-narrow : goal.columns_have_children-requires-clause-narrow
columns_have_children-requires-clause-narrow c =
    let table = c.requires.each c.loop-at.at c.index-infos-at.result c.loop-at-test.true in
    let narrow = subst (λ (info : TableInfo). length info.columns ≤ 32) (sym c.index-infos-at.is) table.narrow in
    rw c.as_slice-columns.ensures (omega (arith, narrow))

pub loop-at-preserved : goal.loop-at-preserved
loop-at-preserved c =
    let t = c.args.removed.now.table in
    let tests = c.args.removed.now.tests.now in
    let db = c.args.tables.now in
    let first = have_children (to_table t (references_from c.loop-at.at 0 c.index-infos-at.result.columns)) t tests db in
    let rest = have_children (to_table t (all_references (c.loop-at.at + 1) (drop (c.loop-at.at + 1) c.args.infos.now))) t tests db in
    let step = tables_step t c.loop-at.at tests db c.args.infos.now c.index-infos-at.result c.loop-at-test.true c.index-infos-at.is in
    off_then c.in_ok-columns_have_children.field-0 first rest _ c.if-branch.false (rw c.as_slice-columns.ensures at c.in_ok-columns_have_children.ensures) (sym step ∙ c.loop-at.invariant)
