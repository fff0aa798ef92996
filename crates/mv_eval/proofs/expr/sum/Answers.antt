use Rattle.std.proofs.Common.{rules}
use Rattle.mv_eval.proofs.expr.sum.Goals as goal

pub returns-in-Some : goal.returns-in-Some
returns-in-Some c = search rules
