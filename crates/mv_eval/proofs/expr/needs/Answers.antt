use Rattle.std.proofs.Common.{rules}
use Rattle.mv_eval.proofs.expr.needs.Goals as goal

pub returns-in-And : goal.returns-in-And
returns-in-And c = search rules
