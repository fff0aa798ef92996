use Rattle.mv_soundness.proofs.Meant.{next_same}
use Rattle.mv_soundness.proofs.laws.next_record_is_alike.Goals as goal

pub returns : goal.returns
returns c = next_same
