use Rattle.std.proofs.Common.{◌≡◌, take}
use Rattle.mv_compile.proofs.copies.copy_exprs.Given as goal

abbrev pub invariant-loop-expr : goal.invariant-loop-expr
invariant-loop-expr l = l.all ≡ take l.expr-index l.exprs
