use Rattle.mv_history.proofs.Listing.{only_these}
use Rattle.mv_history.proofs.laws.only_these_are_listed.Goals as goal

pub returns : goal.returns
returns c = only_these
