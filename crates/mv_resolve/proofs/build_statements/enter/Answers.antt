use Rattle.mv_resolve.proofs.Lists.{on_ok}
use Rattle.mv_resolve.proofs.build_statements.enter.Goals as goal

pub returns-clause-next : goal.returns-clause-next
returns-clause-next c = on_ok c.push.result c.in_ok-next.ensures
