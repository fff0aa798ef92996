use Rattle.std.proofs.Common.{◌≡◌, ◌++◌, take}
use Rattle.mv_report.specs.Graphs.{procedures_text}
use Rattle.mv_report.proofs.render_graphs.write_graphs.Given as goal

abbrev pub invariant-loop-place : goal.invariant-loop-place
invariant-loop-place l = l.text ≡ l.fn.text ++ procedures_text (take l.place l.procedures) (take l.place l.graphs)
