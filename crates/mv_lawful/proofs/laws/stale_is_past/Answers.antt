use Rattle.mv_lawful.proofs.Lows.{stale_is_past}
use Rattle.mv_lawful.proofs.laws.stale_is_past.Goals as goal

pub returns : goal.returns
returns c = stale_is_past
