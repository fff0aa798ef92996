use Rattle.mv_log.proofs.Pushing.{whole_written}
use Rattle.mv_log.proofs.log.Log.push_write.Goals as goal

pub invariant_of-self : goal.invariant_of-self
invariant_of-self c = whole_written c.push.result c.self.inside c.args.write c.push.new.self c.push.ensures.ok c.push.ensures.err c.self.invariant
