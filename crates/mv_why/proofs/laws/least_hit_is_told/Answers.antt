use Rattle.mv_why.proofs.Ties.{least_told}
use Rattle.mv_why.proofs.laws.least_hit_is_told.Goals as goal

pub returns : goal.returns
returns c = least_told
