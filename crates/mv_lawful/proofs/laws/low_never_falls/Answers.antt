use Rattle.mv_lawful.proofs.Lows.{low_never_falls}
use Rattle.mv_lawful.proofs.laws.low_never_falls.Goals as goal

pub returns : goal.returns
returns c = low_never_falls
