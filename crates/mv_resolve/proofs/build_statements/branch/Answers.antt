use Rattle.std.proofs.Common.{ap}
use Rattle.mv_catalog.specs.declared.resolved.RStmt.TheVariants.{Branch}
use Rattle.mv_resolve.proofs.build_statements.branch.Goals as goal

pub returns : goal.returns
returns c = ap (λ t. Branch t c.args.yes c.args.no) c.in_ok-plain_expr.ensures
