use Rattle.mv_shards.proofs.Stored.{grown_met}
use Rattle.mv_shards.proofs.Ledgers.{ledger_learns}
use Rattle.mv_shards.proofs.ledger.Ledger.meet.Goals as goal

pub invariant_of-self : goal.invariant_of-self
invariant_of-self g c =
    ledger_learns g.N.Making.script c.self.inside.commits c.self.inside.pass c.meet.new.self c.self.inside.touched c.self.invariant
    (grown_met c.self.inside.pass c.args.other c.meet.new.self c.meet.ensures.met c.meet.ensures.mine) (c.meet.ensures.gate c.self.invariant.role)
