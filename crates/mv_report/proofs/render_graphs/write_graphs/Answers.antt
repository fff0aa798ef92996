use Rattle.std.proofs.Common.{arith}
use Rattle.mv_report.proofs.Steps.{pair_grew, pairs_grew}
use Rattle.mv_report.specs.Graphs.{graph_text}
use Rattle.mv_report.proofs.render_graphs.write_graphs.Goals as goal

pub loop-place-preserved : goal.loop-place-preserved
loop-place-preserved c =
    pair_grew (λ both. graph_text both.0 both.1) c.args.procedures.now c.args.graphs.now c.loop-place.place c.index-procedures-place.result c.index-graphs-place.result c.args.text.now c.loop-place.text c.write_graph.new.text (omega arith) (omega arith)
    c.index-procedures-place.is c.index-graphs-place.is c.loop-place.invariant c.in_ok-write_graph.ensures

pub returns : goal.returns
returns c = pairs_grew (λ both. graph_text both.0 both.1) c.args.procedures.now c.args.graphs.now c.loop-place.place c.args.text.now _ (omega arith) c.loop-place.invariant
