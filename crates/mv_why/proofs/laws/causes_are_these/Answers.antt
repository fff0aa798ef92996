use Rattle.mv_why.proofs.Counting.{these, only_these}
use Rattle.mv_why.proofs.laws.causes_are_these.Goals as goal

pub returns-clause-are : goal.returns-clause-are
returns-clause-are c = these

pub returns-clause-only : goal.returns-clause-only
returns-clause-only c = only_these
