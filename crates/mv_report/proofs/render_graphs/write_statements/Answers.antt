use Rattle.std.proofs.Common.{◌+◌, arith, take}
use Rattle.mv_report.proofs.Steps.{grew, numbered_more}
use Rattle.mv_report.specs.Graphs.{statement_text, statements_text}
use Rattle.mv_report.proofs.render_graphs.write_statements.Goals as goal

pub loop-before-preserved : goal.loop-before-preserved
loop-before-preserved c =
    let graph = c.args.graph.now in
    let before = c.loop-before.before in
    let node = c.index-nodes-before.result in
    let more = numbered_more (λ numbered. statement_text graph numbered.0 numbered.1) 1 c.args.nodes.now before (before + 1) node c.loop-before-test.true c.index-nodes-before.is (omega arith) in
    grew c.args.text.now c.loop-before.text c.write_statement.new.text (statements_text graph (take before c.args.nodes.now)) (statement_text graph (before + 1) node) _ c.loop-before.invariant c.in_ok-write_statement.ensures more
