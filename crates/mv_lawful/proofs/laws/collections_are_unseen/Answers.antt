use Rattle.mv_lawful.proofs.Collections.{collections_are_unseen}
use Rattle.mv_lawful.proofs.laws.collections_are_unseen.Goals as goal

pub returns : goal.returns
returns c = collections_are_unseen
