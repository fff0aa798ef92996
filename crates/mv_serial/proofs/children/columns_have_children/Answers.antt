use Rattle.std.proofs.Common.{◌+◌, drop, sym, ◌∙◌}
use Rattle.mv_values.specs.References.{reference, references_from}
use Rattle.mv_serial.specs.Removing.{to_table, have_children}
use Rattle.mv_serial.proofs.Leaving.{columns_step, off_then}
use Rattle.mv_serial.proofs.children.columns_have_children.Goals as goal

pub loop-at-preserved : goal.loop-at-preserved
loop-at-preserved c =
    let t = c.args.removed.now.table in
    let tests = c.args.removed.now.tests.now in
    let db = c.args.tables.now in
    let first = have_children (to_table t (reference c.args.table c.loop-at.at c.index-columns-at.result.refers)) t tests db in
    let rest = have_children (to_table t (references_from c.args.table (c.loop-at.at + 1) (drop (c.loop-at.at + 1) c.args.columns.now))) t tests db in
    let step = columns_step t c.args.table c.loop-at.at tests db c.args.columns.now c.index-columns-at.result c.loop-at-test.true c.index-columns-at.is in
    off_then c.in_ok-column_has_children.field-0 first rest _ c.if-branch.false c.in_ok-column_has_children.ensures (sym step ∙ c.loop-at.invariant)
