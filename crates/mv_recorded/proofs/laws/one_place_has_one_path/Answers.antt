use Rattle.mv_recorded.proofs.Posting.{one_path}
use Rattle.mv_recorded.proofs.laws.one_place_has_one_path.Goals as goal

pub returns : goal.returns
returns c = one_path
