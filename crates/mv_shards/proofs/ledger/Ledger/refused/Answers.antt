use Rattle.std.proofs.Common.{◌≤◌, length, arith}
use Rattle.mv_seats.proofs.Prefixes.{prefix_length}
use Rattle.mv_shards.proofs.Sights.{low_past}
use Rattle.mv_shards.proofs.Stored.{low_more}
use Rattle.mv_shards.proofs.ledger.Ledger.refused.Goals as goal

pub returns-in-Stale-clause-past : goal.returns-in-Stale-clause-past
returns-in-Stale-clause-past g c =
    let told = c.requires.low c.in-Stale._start c.in-Stale._low c.in-Stale.is in
    let longer = prefix_length _ _ c.meet.ensures.seen in
    let all = c.commits-commits.ensures.kept.seen in
    low_past g.N.Making.script.options.horizon c.args.number c.in-Stale._low c.args.self.now.commits told.0
    (low_more g.N.Making.script.options.horizon c.in-Stale._low (length c.args.seen.seen) c.args.self.now.commits (omega (arith, longer, all)) told.1)
