use Rattle.mv_history.proofs.Judging.{no_hit_is_unhit}
use Rattle.mv_history.proofs.laws.no_hit_is_unhit.Goals as goal

pub returns : goal.returns
returns c = no_hit_is_unhit
