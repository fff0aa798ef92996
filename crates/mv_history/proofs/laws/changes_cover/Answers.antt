use Rattle.mv_history.proofs.Covering.{changes_cover}
use Rattle.mv_history.proofs.laws.changes_cover.Goals as goal

pub returns : goal.returns
returns c = changes_cover
