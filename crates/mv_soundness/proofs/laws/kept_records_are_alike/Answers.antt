use Rattle.mv_soundness.proofs.Meant.{kept_tell_same}
use Rattle.mv_soundness.proofs.laws.kept_records_are_alike.Goals as goal

pub returns : goal.returns
returns c = kept_tell_same
