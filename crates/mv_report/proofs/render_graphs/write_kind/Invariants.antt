use Rattle.std.proofs.Common.{◌≡◌, ◌++◌, take}
use Rattle.mv_report.specs.Graphs.{kind_text}
use Rattle.mv_report.proofs.render_graphs.write_kind.Given as goal

abbrev pub invariant-loop-before : goal.invariant-loop-before
invariant-loop-before l = l.text ≡ l.fn.text ++ kind_text l.graph l.to l.kind (take l.before l.nodes)
