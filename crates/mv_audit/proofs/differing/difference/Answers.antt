use Rattle.std.proofs.Common.{sym, ◌∙◌, arith}
use Rattle.mv_audit.proofs.Bytes.{goes_on, ends}
use Rattle.mv_audit.proofs.differing.difference.Goals as goal

pub returns-then-i-text : goal.returns-then-i-text
returns-then-i-text c =
    sym (goes_on c.loop-i.n c.loop-i.i c.args.report.now c.args.text.now (omega (arith, c.loop-i-test.true)) (omega (arith, c.if-i-text.true))) ∙ c.loop-i.invariant.left

pub returns-then-report-text : goal.returns-then-report-text
returns-then-report-text c =
    sym (ends c.loop-i.n c.loop-i.i c.args.report.now c.args.text.now (omega (arith, c.loop-i-test.false)) (omega (arith, c.loop-i-test.false, c.loop-i.auto.i-end, c.loop-i.invariant.within, c.if-report-text.true))) ∙ c.loop-i.invariant.left
