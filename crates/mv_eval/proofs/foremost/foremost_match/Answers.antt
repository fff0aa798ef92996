use Rattle.std.proofs.Common.{sym, ap, ◌∙◌}
use Rattle.mv_values.specs.Preds.{meets}
use Rattle.mv_eval.proofs.FirstRows.{stored_met, stored_passed}
use Rattle.mv_eval.proofs.foremost.foremost_match.Goals as goal

pub returns-then-meets : goal.returns-then-meets
returns-then-meets c =
    stored_met c.args.tests.now c.args.direction c.in-Some.key.now c.in-Some.row.now c.loop-key.left c.take_next.new.range _ c.in-Some.ensures
    (ap (meets c.args.tests.now) (sym c.as_slice.ensures) ∙ (sym c.meets.ensures ∙ c.if-meets.true)) c.loop-key.invariant

pub loop-key-preserved : goal.loop-key-preserved
loop-key-preserved c =
    stored_passed c.args.tests.now c.args.direction c.in-Some.key.now c.in-Some.row.now c.loop-key.left c.take_next.new.range _ c.in-Some.ensures
    (ap (meets c.args.tests.now) (sym c.as_slice.ensures) ∙ (sym c.meets.ensures ∙ c.if-meets.false)) c.loop-key.invariant
