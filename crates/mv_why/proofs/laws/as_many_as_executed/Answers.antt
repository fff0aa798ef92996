use Rattle.mv_why.proofs.Counting.{executed}
use Rattle.mv_why.proofs.laws.as_many_as_executed.Goals as goal

pub returns : goal.returns
returns c = executed
