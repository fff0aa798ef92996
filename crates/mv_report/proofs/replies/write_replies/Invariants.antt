use Rattle.std.proofs.Common.{◌≡◌, ◌++◌, take}
use Rattle.mv_report.specs.Text.{replies_text}
use Rattle.mv_report.proofs.replies.write_replies.Given as goal

abbrev pub invariant-loop-call : goal.invariant-loop-call
invariant-loop-call l = l.text ≡ l.fn.text ++ replies_text (take l.call l.replies)
