use Rattle.std.proofs.Common.{◌∙◌, ap, false}
use Rattle.std.specs.List.{list_any}
use Rattle.mv_values.specs.Testing.{are_tested}
use Rattle.mv_script.specs.Columns.{is_looked_up}
use Rattle.mv_script.proofs.Choosing.{one_more, all_of}
use Rattle.mv_script.proofs.columns.indexed_columns.Goals as goal

pub loop-graph-init : goal.loop-graph-init
loop-graph-init c = λ t n few lt. ap (λ l. are_tested l t n) c.new-all.ensures

pub loop-graph-preserved : goal.loop-graph-preserved
loop-graph-preserved c = λ t n few lt.
    one_more (is_looked_up t n) _ c.loop-graph.graph-index c.graph-item.result false (are_tested c.loop-graph.all t n) (are_tested c.add_columns.new.all t n) c.loop-graph-test.true c.graph-item.is (c.loop-graph.invariant t n few lt) (c.in_ok-add_columns.ensures t n few lt)

pub returns : goal.returns
returns c = λ t n few lt.
    all_of (is_looked_up t n) _ c.loop-graph.graph-index false (are_tested c.loop-graph.all t n) c.loop-graph-test.false (c.loop-graph.invariant t n few lt) ∙ ap (list_any (is_looked_up t n)) c.as_slice-graph-items.ensures
