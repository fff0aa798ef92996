use Rattle.mv_soundness.proofs.Asked.{seen_unhit}
use Rattle.mv_soundness.proofs.laws.unhit_predicates_see_alike.Goals as goal

pub returns : goal.returns
returns c = seen_unhit
