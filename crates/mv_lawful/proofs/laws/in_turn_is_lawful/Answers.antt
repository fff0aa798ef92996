use Rattle.mv_lawful.proofs.Turned.{in_turn_is_lawful}
use Rattle.mv_lawful.proofs.laws.in_turn_is_lawful.Goals as goal

pub returns : goal.returns
returns c = in_turn_is_lawful
