use Rattle.std.proofs.Common.{rules}
use Rattle.mv_eval.proofs.order.compare_by.Goals as goal

pub returns-then-sort : goal.returns-then-sort
returns-then-sort c = search rules
