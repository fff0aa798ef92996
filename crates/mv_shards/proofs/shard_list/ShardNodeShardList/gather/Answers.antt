use Rattle.std.proofs.Common.{◌∷◌, subst}
use Rattle.mv_values.specs.Tables.{Tables, rows_at}
use Rattle.mv_record.specs.Admitting.{Admitted}
use Rattle.mv_shards.proofs.Stored.{grown_then}
use Rattle.mv_shards.proofs.Reading.{reads_still, reads_rest, sees_still}
use Rattle.mv_shards.proofs.Sights.{leave_still}
use Rattle.mv_shards.proofs.shard_list.ShardNodeShardList.gather.Goals as goal

pub gather-requires-clause-may : goal.gather-requires-clause-may
gather-requires-clause-may g c = reads_rest g.N.Making.script g.row.Q g.L.ShardList.numbers c.args.n c.read_shard.new.pass (reads_still g.N.Making.script (g.row.Q ∷ g.L.ShardList.numbers) c.args.n c.args.pass.now c.read_shard.new.pass c.requires.may c.read_shard.ensures.grown)

pub gather-requires-clause-admitted : goal.gather-requires-clause-admitted
gather-requires-clause-admitted g c =
    subst (λ (db : Tables). Admitted c.args.pred.now (rows_at db c.args.pred.now.table)) (sees_still g.N.Making.script c.args.n c.args.pass.now c.read_shard.new.pass c.requires.may.past c.read_shard.ensures.grown) c.requires.admitted

pub returns-clause-grown : goal.returns-clause-grown
returns-clause-grown g c = grown_then c.args.pass.now c.read_shard.new.pass c.gather.new.pass c.read_shard.ensures.grown c.gather.ensures.grown

pub gather-requires-clause-leave : goal.gather-requires-clause-leave
gather-requires-clause-leave g c = leave_still g.N.Making.script g.N.Naming.word c.args.n (g.P.Leave.shown c.args.leave.now) (g.P.Leave.shown c.read_shard.new.leave) c.read_shard.ensures.shown c.requires.leave
