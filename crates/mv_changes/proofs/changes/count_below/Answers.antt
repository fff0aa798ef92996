use Rattle.std.proofs.Common.{rules}
use Rattle.std.proofs.lemmas.Fn.{always_returns_same}
use Rattle.mv_changes.specs.Tables.{is_below}
use Rattle.mv_changes.proofs.Cutting.{cut_in_order}
use Rattle.mv_changes.proofs.changes.count_below.Goals as goal

pub returns-clause-cut : goal.returns-clause-cut
returns-clause-cut c =
    c.partition_point.ensures.partitioned (is_below c.args.table) (always_returns_same _ _ _ (λ a r f h. search rules)) (cut_in_order c.args.table c.args.items.now c.requires)
