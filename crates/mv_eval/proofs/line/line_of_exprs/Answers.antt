use Rattle.std.proofs.Common.{Ok}
use Rattle.mv_eval.specs.Known.{seen}
use Rattle.mv_eval.specs.Line.{line_of}
use Rattle.mv_eval.specs.Results.{then_do}
use Rattle.mv_eval.specs.Value.{values_of}
use Rattle.mv_eval.proofs.Lines.{made_from, line_more, line_end}
use Rattle.mv_eval.proofs.line.line_of_exprs.Goals as goal

pub loop-expr-preserved : goal.loop-expr-preserved
loop-expr-preserved c =
    line_more c.args.env.now c.args.exprs.now c.loop-expr.expr-index c.expr-item.result c.loop-expr.line c.add_item.new.line c.loop-expr.more (seen c.in_ok-value.value) _ c.loop-expr-test.true c.expr-item.is c.in_ok-value.ensures c.in_ok-add_item.ensures c.loop-expr.invariant

pub returns : goal.returns
returns c =
    made_from line_of (values_of c.args.exprs.now c.args.env.now) c.loop-expr.line
    (line_end c.args.env.now c.args.exprs.now c.loop-expr.expr-index c.loop-expr.line c.loop-expr.more (then_do (values_of c.args.exprs.now c.args.env.now) (λ vs. Ok (line_of vs))) c.loop-expr-test.false c.loop-expr.invariant)
