use Rattle.std.proofs.Common.{◌≡◌, ◌++◌, take}
use Rattle.mv_report.specs.Graphs.{statements_text}
use Rattle.mv_report.proofs.render_graphs.write_statements.Given as goal

abbrev pub invariant-loop-before : goal.invariant-loop-before
invariant-loop-before l = l.text ≡ l.fn.text ++ statements_text l.graph (take l.before l.nodes)
