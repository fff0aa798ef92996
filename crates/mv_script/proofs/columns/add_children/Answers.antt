use Rattle.std.proofs.Common.{arith}
use Rattle.mv_values.specs.Testing.{are_tested}
use Rattle.mv_script.specs.Columns.{is_for_children}
use Rattle.mv_script.proofs.Choosing.{next_table, no_table, all_tables}
use Rattle.mv_script.proofs.columns.add_children.Goals as goal

pub loop-table-init : goal.loop-table-init
loop-table-init c = λ t n lt. no_table (is_for_children c.args.graph.now t n) (are_tested c.args.all.now t n) t

pub loop-table-preserved : goal.loop-table-preserved
loop-table-preserved c = λ t n lt.
    next_table (is_for_children c.args.graph.now t n) c.loop-table.table t (are_tested c.args.all.now t n) (are_tested c.loop-table.all t n) (are_tested c.add_child_columns.new.all t n) (c.loop-table.invariant t n lt) (c.in_ok-add_child_columns.ensures t n lt)

pub returns : goal.returns
returns c = λ t n few lt.
    all_tables (is_for_children c.args.graph.now t n) (are_tested c.args.all.now t n) (are_tested c.loop-table.all t n) t c.loop-table.table (omega (arith, few, c.loop-table-test.false)) (c.loop-table.invariant t n lt)
