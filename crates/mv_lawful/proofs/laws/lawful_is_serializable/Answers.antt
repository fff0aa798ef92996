use Rattle.mv_lawful.proofs.Serializing.{lawful_is_serializable}
use Rattle.mv_lawful.proofs.laws.lawful_is_serializable.Goals as goal

pub returns : goal.returns
returns c = lawful_is_serializable
