use Rattle.std.proofs.Common.{◌+◌, arith, take}
use Rattle.mv_graph.specs.Edges.{edges}
use Rattle.mv_report.proofs.Steps.{grew, numbered_more}
use Rattle.mv_report.specs.Graphs.{edge_text, letter_of, has_edge, kind_text}
use Rattle.mv_report.proofs.render_graphs.write_kind.Goals as goal

pub loop-before-preserved : goal.loop-before-preserved
loop-before-preserved c =
    let graph = c.args.graph.now in
    let before = c.loop-before.before in
    let node = c.index-nodes-before.result in
    let edge = edge_text (letter_of c.args.kind) (before + 1) (has_edge c.args.kind (edges graph (before + 1) c.args.to)) in
    let more = numbered_more (λ numbered. edge_text (letter_of c.args.kind) numbered.0 (has_edge c.args.kind (edges graph numbered.0 c.args.to))) 1 c.args.nodes.now before (before + 1) node c.loop-before-test.true c.index-nodes-before.is (omega arith) in
    grew c.args.text.now c.loop-before.text c.write_edge.new.text (kind_text graph c.args.to c.args.kind (take before c.args.nodes.now)) edge _ c.loop-before.invariant c.in_ok-write_edge.ensures more
