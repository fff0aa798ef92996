use Rattle.mv_shards.proofs.Stored.{grown_met, start_grown}
use Rattle.mv_shards.proofs.start.Start.learn.Goals as goal

pub invariant_of-self : goal.invariant_of-self
invariant_of-self g c =
    start_grown g.N.Making.script c.self.inside.number c.self.inside.pass c.meet.new.self c.self.inside.touched c.self.invariant
    (grown_met c.self.inside.pass c.args.other c.meet.new.self c.meet.ensures.met c.meet.ensures.mine)
