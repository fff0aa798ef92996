use Rattle.mv_why.proofs.Ruling.{points}
use Rattle.mv_why.proofs.laws.reasons_are_of_the_rule.Goals as goal

pub returns : goal.returns
returns c = points
