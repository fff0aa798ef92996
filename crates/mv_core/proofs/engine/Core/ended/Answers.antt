use Rattle.mv_core.proofs.Changed.{ended_told}
use Rattle.mv_core.proofs.engine.Core.ended.Goals as goal

pub returns : goal.returns
returns c = ended_told c.args.self.now.book c.args.call c.may_step.result c.may_step.ensures
