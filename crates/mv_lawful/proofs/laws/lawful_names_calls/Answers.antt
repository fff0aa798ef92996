use Rattle.mv_lawful.proofs.Serial.{lawful_names_calls}
use Rattle.mv_lawful.proofs.laws.lawful_names_calls.Goals as goal

pub returns : goal.returns
returns c = lawful_names_calls
