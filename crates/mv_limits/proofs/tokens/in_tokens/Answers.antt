use Rattle.mv_limits.proofs.Counting.{tokens_turn, tokens_end}
use Rattle.mv_limits.proofs.tokens.in_tokens.Goals as goal

pub loop-at-preserved : goal.loop-at-preserved
loop-at-preserved c =
    tokens_turn c.args.bytes.now c.args.lexemes.now c.loop-at.at _ c.spelling-text.result.now c.loop-at.best c.in_token-best.result c.in_size-best.result _ c.loop-at-test.true
    c.spelling-text.ensures c.in_token-best.ensures c.in_size-best.ensures c.loop-at.invariant

pub returns : goal.returns
returns c = tokens_end c.args.bytes.now c.args.lexemes.now c.loop-at.at c.loop-at.best _ c.loop-at-test.false c.loop-at.invariant
