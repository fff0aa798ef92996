use Rattle.mv_lawful.proofs.Rounds.{rounds_are_counted}
use Rattle.mv_lawful.proofs.laws.rounds_are_counted.Goals as goal

pub returns : goal.returns
returns c = rounds_are_counted
