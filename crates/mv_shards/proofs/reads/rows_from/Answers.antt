use Rattle.mv_shards.proofs.Stored.{start_grown}
use Rattle.mv_shards.proofs.reads.rows_from.Goals as goal

pub invariant_of-start : goal.invariant_of-start
invariant_of-start g c = start_grown g.N.Making.script c.start.inside.number c.start.inside.pass c.rows_over.new.pass c.start.inside.touched c.start.invariant c.rows_over.ensures.grown
