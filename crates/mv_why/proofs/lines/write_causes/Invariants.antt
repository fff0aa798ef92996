use Rattle.std.proofs.Common.{◌≡◌, ◌++◌, take}
use Rattle.mv_why.specs.Text.{causes_text}
use Rattle.mv_why.proofs.lines.write_causes.Given as goal

abbrev pub invariant-loop-cause : goal.invariant-loop-cause
invariant-loop-cause l = l.text ≡ l.fn.text ++ causes_text l.names.tables.now l.names.old.now l.names.fresh.now (take l.cause-index l.causes)
