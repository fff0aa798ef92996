use Rattle.mv_lawful.proofs.Placing.{lawful_is_serial}
use Rattle.mv_lawful.proofs.laws.lawful_is_serial.Goals as goal

pub returns : goal.returns
returns c = lawful_is_serial
