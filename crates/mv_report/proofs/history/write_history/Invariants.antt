use Rattle.std.proofs.Common.{◌≡◌, ◌++◌, take}
use Rattle.mv_report.specs.Text.{history_text}
use Rattle.mv_report.proofs.history.write_history.Given as goal

abbrev pub invariant-loop-line : goal.invariant-loop-line
invariant-loop-line l = l.text ≡ l.fn.text ++ history_text (take l.line-index l.history)
