use Rattle.mv_ast.specs.declared.lexeme.Terminal.TheVariants as word
use Rattle.mv_limits.proofs.Fronts.{depth_turn, stretch_turn, behind_turn, rest_turn, depth_passed, stretch_passed, none_passed}
use Rattle.mv_limits.proofs.early.first_early.Goals as goal

pub returns-then-counts-gt-DEPTH : goal.returns-then-counts-gt-DEPTH
returns-then-counts-gt-DEPTH c =
    let d = depth_turn c.args.lexemes.now c.loop-lexeme.lexeme-index _ c.loop-lexeme.counts.depth c.after-counts.result.depth c.loop-lexeme.counts.behind_end c.loop-lexeme-test.true c.loop-lexeme.invariant.depth
    c.loop-lexeme.invariant.behind c.after-counts.ensures.depth in
    depth_passed c.args.lexemes.now c.loop-lexeme.lexeme-index _ c.after-counts.result.depth _ c.loop-lexeme-test.true d c.if-counts-gt-DEPTH.true c.loop-lexeme.invariant.rest

pub returns-then-counts-gt-STRETCH : goal.returns-then-counts-gt-STRETCH
returns-then-counts-gt-STRETCH c =
    let d = depth_turn c.args.lexemes.now c.loop-lexeme.lexeme-index _ c.loop-lexeme.counts.depth c.after-counts.result.depth c.loop-lexeme.counts.behind_end c.loop-lexeme-test.true c.loop-lexeme.invariant.depth
    c.loop-lexeme.invariant.behind c.after-counts.ensures.depth in
    let s = stretch_turn c.args.lexemes.now c.loop-lexeme.lexeme-index _ c.loop-lexeme.counts.stretch c.after-counts.result.stretch c.loop-lexeme-test.true c.loop-lexeme.invariant.stretch c.after-counts.ensures.stretch in
    stretch_passed c.args.lexemes.now c.loop-lexeme.lexeme-index _ c.after-counts.result.depth c.after-counts.result.stretch _ c.loop-lexeme-test.true d s c.if-counts-gt-DEPTH.false c.if-counts-gt-STRETCH.true
    c.loop-lexeme.invariant.rest

pub loop-lexeme-preserved : goal.loop-lexeme-preserved
loop-lexeme-preserved c =
    let d = depth_turn c.args.lexemes.now c.loop-lexeme.lexeme-index _ c.loop-lexeme.counts.depth c.after-counts.result.depth c.loop-lexeme.counts.behind_end c.loop-lexeme-test.true c.loop-lexeme.invariant.depth
    c.loop-lexeme.invariant.behind c.after-counts.ensures.depth in
    let s = stretch_turn c.args.lexemes.now c.loop-lexeme.lexeme-index _ c.loop-lexeme.counts.stretch c.after-counts.result.stretch c.loop-lexeme-test.true c.loop-lexeme.invariant.stretch c.after-counts.ensures.stretch in
    record {
      depth = d;
      stretch = s;
      behind = behind_turn c.args.lexemes.now c.loop-lexeme.lexeme-index _ c.after-counts.result.behind_end c.loop-lexeme-test.true c.after-counts.ensures.behind;
      shallow = c.if-counts-gt-DEPTH.false;
      short = c.if-counts-gt-STRETCH.false;
      rest = rest_turn c.args.lexemes.now c.loop-lexeme.lexeme-index
          (record { number = 0; kind = word.Name; at = 0; len = 0 }) c.after-counts.result.depth c.after-counts.result.stretch _ c.loop-lexeme-test.true d s c.if-counts-gt-DEPTH.false c.if-counts-gt-STRETCH.false c.loop-lexeme.invariant.rest;
    }

pub returns : goal.returns
returns c = none_passed c.args.lexemes.now c.loop-lexeme.lexeme-index _ c.loop-lexeme-test.false c.loop-lexeme.invariant.rest
