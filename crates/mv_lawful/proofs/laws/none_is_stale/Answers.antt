use Rattle.mv_lawful.proofs.Lows.{none_is_stale}
use Rattle.mv_lawful.proofs.laws.none_is_stale.Goals as goal

pub returns : goal.returns
returns c = none_is_stale
