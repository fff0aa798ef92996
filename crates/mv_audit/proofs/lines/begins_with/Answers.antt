use Rattle.std.proofs.Common.{sym, ◌∙◌, arith}
use Rattle.mv_audit.proofs.Lining.{too_short}
use Rattle.mv_audit.proofs.lines.begins_with.Goals as goal

pub returns-then-i-line : goal.returns-then-i-line
returns-then-i-line c = sym (too_short c.loop-i.i c.args.line.now c.args.word.now (omega (arith, c.if-i-line.true)) (omega (arith, c.loop-i-test.true))) ∙ c.loop-i.invariant
