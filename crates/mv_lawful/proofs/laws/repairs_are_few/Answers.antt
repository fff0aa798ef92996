use Rattle.mv_lawful.proofs.Repairs.{repairs_are_few}
use Rattle.mv_lawful.proofs.laws.repairs_are_few.Goals as goal

pub returns : goal.returns
returns c = repairs_are_few
