use Rattle.mv_audit.proofs.Walking.{get_at}
use Rattle.mv_audit.proofs.judge.event_at.Goals as goal

pub returns : goal.returns
returns c = get_at c.args.events.now c.args.i _ c.requires
