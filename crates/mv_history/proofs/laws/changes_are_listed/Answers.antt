use Rattle.mv_history.proofs.Listing.{changes_listed}
use Rattle.mv_history.proofs.laws.changes_are_listed.Goals as goal

pub returns : goal.returns
returns c = changes_listed
