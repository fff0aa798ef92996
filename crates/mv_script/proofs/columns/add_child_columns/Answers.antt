use Rattle.std.proofs.Common.{◌==◌, arith}
use Rattle.mv_values.specs.Testing.{are_tested}
use Rattle.mv_script.specs.Columns.{finds_children, leads_key, is_for_children}
use Rattle.mv_script.proofs.Choosing.{next_column, no_column, all_columns}
use Rattle.mv_script.proofs.columns.add_child_columns.Goals as goal

pub loop-column-init : goal.loop-column-init
loop-column-init c = λ t n. no_column (c.args.table == t) (is_for_children c.args.graph.now t n) (are_tested c.args.all.now t n) n

pub loop-column-preserved : goal.loop-column-preserved
loop-column-preserved c = λ t n.
    next_column (finds_children c.args.graph.now) (leads_key c.args.graph.now.tables) c.args.table c.loop-column.column t n (are_tested c.args.all.now t n) (are_tested c.loop-column.all t n) (are_tested c.add_child_column.new.all t n) (c.loop-column.invariant t n)
    (c.in_ok-add_child_column.ensures t n)

pub returns : goal.returns
returns c = λ t n lt.
    all_columns (c.args.table == t) (is_for_children c.args.graph.now t n) (are_tested c.args.all.now t n) (are_tested c.loop-column.all t n) n c.loop-column.column (omega (arith, lt, c.loop-column-test.false)) (c.loop-column.invariant t n)
