use Rattle.std.proofs.Common.{◌≡◌, ◌++◌, drop, Ok}
use Rattle.mv_eval.specs.Results.{then_do}
use Rattle.mv_eval.specs.Value.{values_of}
use Rattle.mv_eval.specs.Line.{line_of}
use Rattle.mv_eval.proofs.Lines.{rest_of}
use Rattle.mv_eval.proofs.line.line_of_exprs.Given as goal

abbrev pub invariant-loop-expr : goal.invariant-loop-expr
invariant-loop-expr l = then_do (values_of (drop l.expr-index l.exprs) l.env) (λ vs. Ok (l.line ++ rest_of l.more vs)) ≡ then_do (values_of l.exprs l.env) (λ vs. Ok (line_of vs))
