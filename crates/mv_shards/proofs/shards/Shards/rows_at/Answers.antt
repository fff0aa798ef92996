use Rattle.mv_shards.proofs.shards.Shards.rows_at.Goals as goal

pub rows_from-requires-clause-leave : goal.rows_from-requires-clause-leave
rows_from-requires-clause-leave g c need = absurd (c.requires.free need)
