use Rattle.std.proofs.Common.{length}
use Rattle.mv_seats.proofs.Prefixes.{prefix_length}
use Rattle.mv_shards.proofs.Sights.{low_past}
use Rattle.mv_shards.proofs.Stored.{low_more}
use Rattle.mv_shards.proofs.start.Start.refused.Goals as goal

pub returns-in-Stale-clause-past : goal.returns-in-Stale-clause-past
returns-in-Stale-clause-past g c =
    let told = c.requires.low c.in-Stale._start c.in-Stale._low c.in-Stale.is in
    low_past g.N.Making.script.options.horizon c.args.self.now.number c.in-Stale._low (length c.learn.new.self.knows.seen) told.0
    (low_more g.N.Making.script.options.horizon c.in-Stale._low (length c.args.seen.seen) (length c.learn.new.self.knows.seen) (prefix_length _ _ c.learn.ensures.theirs) told.1)
