use Rattle.mv_parser.proofs.Keywords.{word_here, word_further, word_nowhere}
use Rattle.mv_parser.proofs.words.named.Goals as goal

pub returns-then-eq_ignore_ascii_case : goal.returns-then-eq_ignore_ascii_case
returns-then-eq_ignore_ascii_case c =
    word_here c.args.words.now c.loop-word.word-index _ c.args.text.now _ c.loop-word-test.true
    (c.eq_ignore_ascii_case.ensures.test.0 c.if-eq_ignore_ascii_case.true) c.loop-word.invariant

pub loop-word-preserved : goal.loop-word-preserved
loop-word-preserved c =
    word_further c.args.words.now c.loop-word.word-index _ c.args.text.now _ c.eq_ignore_ascii_case.result c.loop-word-test.true
    c.eq_ignore_ascii_case.ensures.test.1 c.if-eq_ignore_ascii_case.false c.loop-word.invariant

pub returns : goal.returns
returns c = word_nowhere c.args.words.now c.loop-word.word-index c.args.text.now _ c.loop-word-test.false c.loop-word.invariant
