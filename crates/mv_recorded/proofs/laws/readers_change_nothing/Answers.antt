use Rattle.mv_recorded.proofs.Quiet.{readers_change_nothing}
use Rattle.mv_recorded.proofs.laws.readers_change_nothing.Goals as goal

pub returns : goal.returns
returns c = readers_change_nothing
