use Rattle.std.proofs.Common.{rules}
use Rattle.mv_print.proofs.expr.right_level.Goals as goal

pub returns-in-Add : goal.returns-in-Add
returns-in-Add c = search rules
